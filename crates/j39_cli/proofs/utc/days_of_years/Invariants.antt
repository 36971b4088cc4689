use Rattle.std.proofs.Common.{◌≡◌, ◌≤◌, ◌*◌}
use Rattle.j39_cli.specs.UtcMoment.{days_of_years}
use Rattle.j39_cli.proofs.utc.days_of_years.Given as goal

-- those of the years so far
abbrev pub invariant-loop-n : goal.invariant-loop-n
invariant-loop-n l = (l.days ≡ days_of_years l.n) × (l.days ≤ 366 * l.n)
