use Rattle.std.proofs.Common.{◌≡◌, ◌++◌, ℕ, List}
use Rattle.std.specs.Fmt.{decimal}
use Rattle.j39_io.specs.Backwards.{WritesBefore}
use Rattle.j39_io.proofs.backwards.number_before.Given as goal

-- the last digits are written
abbrev pub invariant-pairs : goal.invariant-pairs
invariant-pairs l = (done : List ℕ) × WritesBefore l.fn.out l.out l.end l.at done × (decimal l.value ≡ decimal l.left ++ done)

abbrev pub decreases-pairs : goal.decreases-pairs
decreases-pairs l = l.left
