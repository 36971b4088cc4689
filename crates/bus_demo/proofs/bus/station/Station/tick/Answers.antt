-- Time passed, and what ended was taken.
use Rattle.std.proofs.Common.{refl}
use Rattle.j39_node.specs.History.Call.{TakeTransferEnded}
use Rattle.bus_demo.specs.Calls.{is_taking}
use Rattle.bus_demo.proofs.CallLemmas.{calls_one, calls_then}
use Rattle.bus_demo.proofs.bus.station.Station.tick.Goals as goal

pub returns-clause-ticks : goal.returns-clause-ticks
returns-clause-ticks c =
    let ended = c.settle.ensures.calls in
    let settled = calls_one is_taking (TakeTransferEnded ended.0) c.tick.new.self c.settle.new.self.controller refl ended.1 in
    (c.tick.new.self, c.tick.ensures, calls_then is_taking c.tick.new.self c.settle.new.self.controller c.withdraw.new.self.controller settled c.withdraw.ensures.calls)
