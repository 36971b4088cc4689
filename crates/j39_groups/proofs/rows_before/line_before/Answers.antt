-- The head, the label and the value.
use Rattle.std.proofs.Common.{subst, ◌∷◌, [], drop, decimal}
use Rattle.j39_io.specs.Backwards.{WritesBefore}
use Rattle.j39_io.proofs.BackwardsLemmas.{before_then}
use Rattle.j39_groups.specs.Models.{field_slot, short_value}
use Rattle.j39_groups.specs.ValueText.{value_text}
use Rattle.j39_groups.proofs.ReadyLemmas.{labelled_line, prepared_is}
use Rattle.j39_groups.proofs.RowLemmas.{row_is}
use Rattle.j39_groups.proofs.rows_before.line_before.Goals as goal

pub short_before-label-requires-clause-from : goal.short_before-label-requires-clause-from
short_before-label-requires-clause-from c = (prepared_is c.args.row.now c.args.prepared.now (row_is c.args.row.now c.requires.sound).prepared c.requires.prepared).0

pub returns-clause-written : goal.returns-clause-written
returns-clause-written c =
    let row = c.args.row.now in
    let is = prepared_is row c.args.prepared.now (row_is row c.requires.sound).prepared c.requires.prepared in
    subst (WritesBefore c.args.out.now c.tail_before.new.out c.args.end c.tail_before.result)
    (labelled_line (drop c.args.from c.args.head.now) (decimal row.pgn) (decimal row.spn) (value_text (short_value (field_slot row.field) c.args.short)) (10 ∷ []) _ is.1)
    (before_then _ _ _ _ _ _ _ _ (before_then _ _ _ _ _ _ _ _ c.value_before-text.ensures.written c.short_before-label.ensures.written) c.tail_before.ensures.written)
