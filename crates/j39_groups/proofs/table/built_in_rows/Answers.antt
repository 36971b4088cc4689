-- The code's rows say what the table says, and their rule is computed.
use Rattle.std.proofs.Common.{refl}
use Rattle.j39_groups.specs.Rows.{is_row}
use Rattle.j39_groups.specs.Table.{the_table}
use Rattle.j39_groups.proofs.table.built_in_rows.Goals as goal

pub returns-clause-table : goal.returns-clause-table
unfolding the_table
returns-clause-table c = refl

pub returns-clause-sound : goal.returns-clause-sound
unfolding is_row
returns-clause-sound c = refl
