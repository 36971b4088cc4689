use Rattle.std.proofs.Common.{◌≡◌, ◌++◌, None, drop, map, take}
use Rattle.j39_transport.proofs.table.Table.clear.Given as goal

abbrev pub invariant-loop-i : goal.invariant-loop-i
invariant-loop-i g l = l.self ≡ map (λ _. None) (take l.i l.initial.self) ++ drop l.i l.initial.self
