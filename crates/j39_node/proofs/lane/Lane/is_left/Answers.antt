use Rattle.j39_node.proofs.Common.{ap, opened, option_map}
use Rattle.j39_node.proofs.FrameLemmas.{left_is}
use Rattle.j39_node.proofs.lane.Lane.is_left.Goals as goal

pub returns-in-Some : goal.returns-in-Some
returns-in-Some c = λ w. left_is _ (opened w c.in-Some.broadcast) _ _ (ap (option_map (opened w)) c.in-Some.is) (c.packets.ensures.value w)
