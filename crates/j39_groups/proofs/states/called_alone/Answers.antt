-- A row that names no states.
use Rattle.std.proofs.Common.{◌≡◌, ◌∙◌, length, sym}
use Rattle.std.proofs.lemmas.Bool.{eqb-true}
use Rattle.j39_groups.specs.Models.{row_record}
use Rattle.j39_groups.proofs.StateLemmas.{none_by}
use Rattle.j39_groups.proofs.states.called_alone.Goals as goal

pub returns-then-is_empty-clause-alone : goal.returns-then-is_empty-clause-alone
returns-then-is_empty-clause-alone c = λ value.
    let none : length c.split_states.result.1.now ≡ 0 = eqb-true _ 0 (sym c.is_empty.ensures ∙ c.if-is_empty.true) in
    none_by value (row_record c.args.row.now) (rw (← c.split_states.ensures.states) none)
