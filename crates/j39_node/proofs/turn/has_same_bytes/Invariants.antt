use Rattle.std.proofs.Common.{◌≡◌, take}
use Rattle.j39_node.proofs.turn.has_same_bytes.Given as goal

-- they are the same so far
abbrev pub invariant-loop-place : goal.invariant-loop-place
invariant-loop-place l = take l.place l.one ≡ take l.place l.other
