-- The table's rows stand so.
use Rattle.j39_groups.proofs.RowLemmas.{all_together}
use Rattle.j39_groups.proofs.groups_table.Groups.built_in.Goals as goal

pub of-requires-clause-together : goal.of-requires-clause-together
of-requires-clause-together c = all_together _ c.built_in_rows.ensures.together
