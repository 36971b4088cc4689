use Rattle.std.proofs.Common.{◌≡◌, take, length}
use Rattle.j39_groups.specs.Runs.{AreRuns}
use Rattle.j39_groups.proofs.runs.runs_of.Given as goal

-- the rows so far lie in the runs of their places
abbrev pub invariant-loop-at : goal.invariant-loop-at
invariant-loop-at l = AreRuns l.runs (take l.at l.rows) × (length l.runs ≡ 17408)
