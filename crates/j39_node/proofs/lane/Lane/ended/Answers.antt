use Rattle.j39_node.proofs.Common.{ap, false, le-ltb, lt-ltb, opened, option_map, refl, true}
use Rattle.j39_node.proofs.FrameLemmas.{ended_is}
use Rattle.j39_node.proofs.lane.Lane.ended.Goals as goal

pub returns-then-packets-self : goal.returns-then-packets-self
returns-then-packets-self c = λ w. ended_is _ (opened w c.in-Some.broadcast) _ _ _ true _ (ap (option_map (opened w)) c.in-Some.is) (c.packets.ensures.value w) (lt-ltb _ _ c.if-packets-self.true) refl

pub returns-then-is_lost : goal.returns-then-is_lost
returns-then-is_lost c = λ w. ended_is _ (opened w c.in-Some.broadcast) _ _ _ false true (ap (option_map (opened w)) c.in-Some.is) (c.packets.ensures.value w) (le-ltb _ _ c.if-packets-self.false) c.if-is_lost.true

pub returns-else-is_lost : goal.returns-else-is_lost
returns-else-is_lost c = λ w. ended_is _ (opened w c.in-Some.broadcast) _ _ _ false false (ap (option_map (opened w)) c.in-Some.is) (c.packets.ensures.value w) (le-ltb _ _ c.if-packets-self.false) c.if-is_lost.false
