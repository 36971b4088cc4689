use Rattle.bus_demo.specs.Calls.{Calls, is_taking}
use Rattle.bus_demo.proofs.bus.station.Station.clear.Given as goal

-- calls took what there was
abbrev pub invariant-loop-message : goal.invariant-loop-message
invariant-loop-message l = Calls is_taking l.initial.self.controller l.self.controller
