-- The rows of each group stand together.
use Rattle.std.proofs.Common.{subst, sym}
use Rattle.j39_groups.specs.Rows.{StandTogether}
use Rattle.j39_groups.proofs.groups_table.Groups.of.Goals as goal

pub runs_of-runs-requires-clause-together : goal.runs_of-runs-requires-clause-together
runs_of-runs-requires-clause-together c = subst StandTogether (sym c.rows_of.ensures) c.requires.together
