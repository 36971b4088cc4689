-- What ended by the frame is taken.
use Rattle.std.proofs.Common.{refl, subst, sym}
use Rattle.j39_node.specs.History.Call.{TakeBroadcastEnded, TakeEnded}
use Rattle.bus_demo.specs.Calls.{Calls, is_taking}
use Rattle.bus_demo.specs.declared.bus.station.Station.{Station}
use Rattle.bus_demo.proofs.CallLemmas.{calls_one, calls_then}
use Rattle.bus_demo.proofs.bus.station.Station.part_of.Goals as goal

pub returns-then-is_some-clause-calls : goal.returns-then-is_some-clause-calls
returns-then-is_some-clause-calls c =
    subst (λ (s : Station). Calls is_taking c.args.self.now.controller s.controller) (sym c.take_single.ensures.rest)
    (calls_one is_taking (TakeEnded c.take_ended.result) c.args.self.now.controller c.take_ended.new.self refl c.take_ended.ensures)

pub returns-clause-calls : goal.returns-clause-calls
returns-clause-calls c =
    let old = c.args.self.now.controller in
    let mid = c.take_ended.new.self in
    let new = c.take_broadcast_ended.new.self in
    let first = calls_one is_taking (TakeEnded c.take_ended.result) old mid refl c.take_ended.ensures in
    let second = calls_one is_taking (TakeBroadcastEnded c.take_broadcast_ended.result) mid new refl c.take_broadcast_ended.ensures in
    subst (λ (s : Station). Calls is_taking old s.controller) (sym c.take_packet.ensures.rest) (calls_then is_taking old mid new first second)
