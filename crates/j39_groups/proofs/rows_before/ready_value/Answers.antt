-- A row whose line is prepared has one value at most, with this end.
use Rattle.j39_groups.proofs.ReadyLemmas.{field_sound, prepared_is, ready_ends, ready_short}
use Rattle.j39_groups.proofs.RowLemmas.{row_is}
use Rattle.j39_groups.proofs.rows_before.ready_value.Goals as goal

pub returns-clause-value : goal.returns-clause-value
returns-clause-value c =
    let row = c.args.row.now in
    let prepared = c.args.prepared.now in
    let is = prepared_is row prepared (row_is row c.requires.sound).prepared c.requires.prepared in
    c.short_in.ensures (ready_short prepared.end row.field is.2)

pub returns-clause-ends : goal.returns-clause-ends
returns-clause-ends c =
    let row = c.args.row.now in
    let prepared = c.args.prepared.now in
    let is = prepared_is row prepared (row_is row c.requires.sound).prepared c.requires.prepared in
    ready_ends prepared.end row.field c.args.bytes.now c.short_in.result is.2 (c.short_in.ensures (ready_short prepared.end row.field is.2))

pub short_in-requires : goal.short_in-requires
short_in-requires c = field_sound c.args.row.now.field (row_is c.args.row.now c.requires.sound).sound
