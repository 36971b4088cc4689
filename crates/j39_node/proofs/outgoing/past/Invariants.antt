use Rattle.j39_node.proofs.Common.{◌-◌, ◌≡◌, is_blank, length, map, past, posted}
use Rattle.j39_node.proofs.outgoing.past.Given as goal

-- those so far are passed
abbrev pub invariant-loop-place : goal.invariant-loop-place
invariant-loop-place l = past (map is_blank (map posted l.outgoing)) l.initial.place ≡ past (map is_blank (map posted l.outgoing)) l.place

abbrev pub decreases-loop-place : goal.decreases-loop-place
decreases-loop-place l = length l.outgoing - l.place
