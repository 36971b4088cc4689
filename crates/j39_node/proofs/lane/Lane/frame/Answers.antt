use Rattle.j39_node.proofs.Common.{ap, arith, nothing, opened, option_map, stamp_micros, who_of}
use Rattle.j39_node.proofs.FrameLemmas.{packet_past}
use Rattle.j39_node.proofs.lane.Lane.frame.Goals as goal

pub returns-then-self-packets-clause-frame : goal.returns-then-self-packets-clause-frame
returns-then-self-packets-clause-frame c =
    packet_past _ (opened (who_of nothing c.args.own.now) c.in-Some.broadcast) _ _ c.args.pause (stamp_micros c.args.now)
    (ap (option_map (opened (who_of nothing c.args.own.now))) c.in-Some.is) (c.packets.ensures.value (who_of nothing c.args.own.now)) (omega (arith, c.if-self-packets.true)) (omega (arith, c.if-pause-gt-SLACK.false))
