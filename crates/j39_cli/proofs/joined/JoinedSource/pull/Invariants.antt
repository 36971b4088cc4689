use Rattle.j39_cli.proofs.Common.{◌≡◌, ◌<◌, ◌≤◌, length, take, Consumes, IsAtEnd}
use Rattle.j39_cli.specs.JoinedSoFar.{current_of, has_fault, later_of, left_in}
use Rattle.j39_cli.proofs.joined.JoinedSource.pull.Given as goal

-- n bytes were read, and no fault came; if there were none, the current one is at its end
abbrev pub invariant-loop-n : goal.invariant-loop-n
invariant-loop-n g l =
    (l.n ≤ length l.buf) × (length l.buf ≡ length l.initial.buf)
    × Consumes (left_in g.R.Source.remaining l.fn.self) (left_in g.R.Source.remaining l.self) (take l.n l.buf)
    × (l.n ≡ 0 → 0 < length l.buf → IsAtEnd (g.R.Source.remaining (current_of l.self)))
    × (has_fault l.self ≡ has_fault l.fn.self)
    × (length (later_of l.self) ≤ length (later_of l.fn.self))
    × (later_of l.self ≡ later_of l.fn.self → g.R.Source.has_failed (current_of l.self) ≡ g.R.Source.has_failed (current_of l.fn.self))

abbrev pub decreases-loop-n : goal.decreases-loop-n
decreases-loop-n g l = length (later_of l.self)
