use Rattle.std.proofs.Common.{◌≡◌, length}
use Rattle.bus_demo.specs.Calls.{Calls, is_taking}
use Rattle.bus_demo.proofs.bus.station.Station.withdraw.Given as goal

-- calls took what there was, and nothing was noted but fates
abbrev pub invariant-loop-message : goal.invariant-loop-message
invariant-loop-message l = Calls is_taking l.initial.self.controller l.self.controller
    × (l.book ≡ record l.initial.book { handed = l.book.handed })
    × (length l.book.handed.items ≡ length l.initial.book.handed.items)
