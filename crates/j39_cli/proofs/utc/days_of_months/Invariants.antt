use Rattle.std.proofs.Common.{◌≡◌, ◌≤◌, ◌*◌}
use Rattle.j39_cli.specs.UtcMoment.{days_of_months}
use Rattle.j39_cli.proofs.utc.days_of_months.Given as goal

-- those of the months so far
abbrev pub invariant-loop-n : goal.invariant-loop-n
invariant-loop-n l = (l.days ≡ days_of_months l.year l.n) × (l.days ≤ 31 * l.n)
