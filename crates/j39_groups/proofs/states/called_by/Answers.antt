-- A row that names no states.
use Rattle.std.proofs.Common.{◌≡◌, ◌∙◌, length, sym}
use Rattle.std.proofs.lemmas.Bool.{eqb-true}
use Rattle.j39_groups.specs.Models.{row_record, value_of}
use Rattle.j39_groups.proofs.StateLemmas.{none_by}
use Rattle.j39_groups.proofs.states.called_by.Goals as goal

pub returns-then-is_empty-clause-state : goal.returns-then-is_empty-clause-state
returns-then-is_empty-clause-state c =
    let none : length c.split_states.result.1.now ≡ 0 = eqb-true _ 0 (sym c.is_empty.ensures ∙ c.if-is_empty.true) in
    sym (none_by (value_of c.args.value) (row_record c.args.row.now) (rw (← c.split_states.ensures.states) none))
