use Rattle.j39_node.proofs.Common.{◌≡◌, ◌≤◌, length, map, pgn_raw, take}
use Rattle.j39_node.proofs.own.few.Given as goal

-- the numbers of the groups so far
abbrev pub invariant-loop-group : goal.invariant-loop-group
invariant-loop-group l = (l.numbers.items ≡ map pgn_raw (take l.group-index l.groups)) × (length l.numbers.items ≤ 64)
