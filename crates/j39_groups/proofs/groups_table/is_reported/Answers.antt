-- A group has rows in the built-in table, of which none is the network's.
use Rattle.std.proofs.Common.{◌∙◌, ap}
use Rattle.j39_groups.specs.Readings.{group_rows}
use Rattle.j39_groups.specs.Table.{the_table}
use Rattle.j39_groups.proofs.ReadLemmas.{reported_by_group}
use Rattle.j39_groups.proofs.RowLemmas.{rows_free}
use Rattle.j39_groups.proofs.groups_table.is_reported.Goals as goal

pub returns : goal.returns
returns c = rw (← c.raw.ensures.value) (
    c.has_group.ensures
    ∙ reported_by_group c.built_in_rows.result.now the_table c.raw.result (ap (group_rows c.raw.result) c.built_in_rows.ensures.table) (rows_free c.built_in_rows.result.now c.built_in_rows.ensures.sound)
    )
