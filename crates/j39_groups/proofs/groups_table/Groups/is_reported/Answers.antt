-- A group has rows, of which none is the network's.
use Rattle.std.proofs.Common.{◌∙◌, ap, not}
use Rattle.j39_groups.proofs.ReadLemmas.{reported_by_rows}
use Rattle.j39_groups.proofs.RowLemmas.{rows_free}
use Rattle.j39_groups.proofs.groups_table.Groups.is_reported.Goals as goal

pub returns : goal.returns
returns c = rw (← c.raw.ensures.value) (
    ap not c.is_empty.ensures
    ∙ reported_by_rows c.rows_for.result.now c.args.self.now c.raw.result c.rows_for.ensures.own c.rows_for.ensures.rows
    (rows_free c.rows_for.result.now c.rows_for.ensures.sound)
    )
