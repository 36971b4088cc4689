-- One code after the other.
use Rattle.j39_fault_reports.proofs.Common.{arith, map, stamp_micros}
use Rattle.j39_fault_reports.specs.CurrentPlaces.{standing_record}
use Rattle.j39_fault_reports.proofs.StandingLemmas.{room_more, stood_more}
use Rattle.j39_fault_reports.proofs.current_faults.standing.of_codes.Goals as goal

pub push-requires : goal.push-requires
push-requires g c =
    let room = room_more (map standing_record c.args.before.now) (stamp_micros c.args.stamp) c.args.version c.args.payload.now g.row.N c.in-Some.code _ _ _ c.loop-code.invariant c.in-Some.ensures.steps c.requires in
    omega (arith, room)

pub loop-code-preserved : goal.loop-code-preserved
loop-code-preserved g c =
    stood_more (map standing_record c.args.before.now) (stamp_micros c.args.stamp) c.args.version c.args.payload.now c.in-Some.code _ _ _ _ c.continued.result c.loop-code.invariant c.in-Some.ensures.steps
    (rw c.code_by-code.ensures at c.continued.ensures) c.push.ensures.items
