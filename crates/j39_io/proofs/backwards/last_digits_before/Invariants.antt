use Rattle.std.proofs.Common.{◌≡◌, ◌++◌, ◌+◌, ◌/◌, ◌^◌, ℕ, List}
use Rattle.j39_io.specs.Backwards.{WritesBefore}
use Rattle.j39_io.specs.Printing.{last_digits}
use Rattle.j39_io.proofs.backwards.last_digits_before.Given as goal

-- the last digits are written, and those before them are left
abbrev pub invariant-pairs : goal.invariant-pairs
invariant-pairs l =
    (done : List ℕ) × WritesBefore l.fn.out l.out l.end l.at done × (last_digits l.count l.value ≡ last_digits l.more l.left ++ done)
    × (l.at + l.count ≡ l.end + l.more) × (l.left / 10 ^ l.more ≡ l.value / 10 ^ l.count)

abbrev pub decreases-pairs : goal.decreases-pairs
decreases-pairs l = l.more
