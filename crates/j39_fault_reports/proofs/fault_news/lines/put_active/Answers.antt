-- The columns of a code, or of lamps.
use Rattle.j39_fault_reports.proofs.Common.{◌∙◌, List, ℕ, ap, codes, unwrap_or, flat_map, puts_as, cell_of, ColumnRecord, text_or_nothing}
use Rattle.j39_listen.specs.declared.format.Clock.TheVariants.{Seconds}
use Rattle.j39_listen.specs.declared.format.Format.TheVariants.{Line}
use Rattle.j39_rows.specs.Row.{column_text}
use Rattle.j39_fault_reports.specs.FaultRows.{coded, lights_columns}
use Rattle.j39_fault_reports.specs.Faults.{name_in}
use Rattle.j39_names.specs.Naming.{naming_of}
use Rattle.j39_fault_reports.proofs.fault_news.lines.put_active.Goals as goal

pub returns-in-Some : goal.returns-in-Some
returns-in-Some g c =
    let code = c.in-Some.code in
    let shown : List ℕ → List ℕ → List ℕ → List ColumnRecord = λ name word parameter. coded name word (cell_of c.text-lamps.result) parameter code in
    rw c.in-Some.is (puts_as _ _ _ _ (ap (flat_map (column_text (Line Seconds))) (c.coded.ensures
    ∙ ap (λ name. shown name c.state_word-word.result.now c.parameter_of-parameter.result.now) c.state_name-name.ensures
    ∙ ap (λ word. shown (codes "state") word c.parameter_of-parameter.result.now) c.state_word-word.ensures.text
    ∙ ap (shown (codes "state") (codes "active")) (c.parameter_of-parameter.ensures
    ∙ ap (unwrap_or (name_in (naming_of c.args.naming.now) code)) (c.as_slice-in-Some.ensures.value ∙ c.parameter_words-words.ensures)))) c.put_columns.ensures)

pub returns-in-None : goal.returns-in-None
returns-in-None g c =
    rw c.in-None.is (puts_as _ _ _ _ (ap (flat_map (column_text (Line Seconds))) (c.lights_columns-columns.ensures
    ∙ ap lights_columns (c.text-lamps.ensures ∙ ap text_or_nothing (c.as_slice.ensures.value ∙ c.lamps_told-told.ensures.text)))) c.put_columns-in-None.ensures)
