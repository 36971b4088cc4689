use Rattle.std.proofs.Common.{◌≡◌, ◌≤◌, ◌++◌, ℕ, List, Some, length}
use Rattle.j39_listen.proofs.PassLemmas.{HasPassed, IsFresh}
use Rattle.j39_listen.proofs.pieces.Pieces.lines_passed.Given as goal

-- the bytes before the rest are so many lines, and were read
abbrev pub invariant-loop-line : goal.invariant-loop-line
invariant-loop-line g l =
    (done : List ℕ) × (l.bytes ≡ done ++ l.rest) × (l.passed ≤ length done) × HasPassed g.A.Account.has_met l.self done l.passed

abbrev pub decreases-loop-line : goal.decreases-loop-line
decreases-loop-line g l = length l.rest
