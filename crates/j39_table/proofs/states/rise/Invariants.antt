use Rattle.std.proofs.Common.{◌==◌, length}
use Rattle.std.specs.List.{slice_split}
use Rattle.j39_table.proofs.StateLemmas.{RisesTo}
use Rattle.j39_table.proofs.states.rise.Given as goal

-- the states so far rise to the least number of the next
abbrev pub invariant-loop-state : goal.invariant-loop-state
invariant-loop-state l = RisesTo l.limit (slice_split (λ b. b == 44) l.states) (length l.yielded) l.least
