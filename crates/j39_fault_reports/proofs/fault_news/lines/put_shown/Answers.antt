-- The row of a code, or that there is none.
use Rattle.j39_names.specs.Naming.{naming_of}
use Rattle.j39_fault_reports.proofs.Common.{◌∙◌, List, ℕ, ap, codes, unwrap_or, puts_as, cell_of, head_of, CellRecord, ColumnRecord, row_text, text_or_nothing}
use Rattle.j39_faults.specs.Text.{lamps_told, state_text}
use Rattle.j39_fault_reports.specs.FaultRows.{coded, state_name, uncoded}
use Rattle.j39_fault_reports.specs.Faults.{name_in}
use Rattle.j39_fault_reports.proofs.fault_news.lines.put_shown.Goals as goal

pub returns-in-None : goal.returns-in-None
returns-in-None g c =
    let how = c.args.said.state in
    let shown : List ℕ → List ℕ → CellRecord → List ColumnRecord = λ name word lamps. uncoded name word (codes "none") lamps (codes "no code") in
    rw c.in-None.is (puts_as _ _ _ _ (ap (row_text c.args.writing.form (head_of c.args.head)) (c.uncoded-columns.ensures
    ∙ ap (λ name. shown name c.state_word-word.result.now (cell_of c.text-lamps.result)) c.state_name-name.ensures
    ∙ ap (λ word. shown (state_name how) word (cell_of c.text-lamps.result)) c.state_word-word.ensures.text
    ∙ ap (shown (state_name how) (state_text how)) (c.text-lamps.ensures ∙ ap text_or_nothing (c.as_slice.ensures.value ∙ c.lamps_told-told.ensures.text)))) c.put_row-in-None.ensures)

pub returns-in-Some : goal.returns-in-Some
returns-in-Some g c =
    let how = c.args.said.state in
    let code = c.in-Some.code in
    let shown : List ℕ → List ℕ → CellRecord → List ℕ → List ColumnRecord = λ name word lamps parameter. coded name word lamps parameter code in
    let lamps = text_or_nothing (lamps_told c.args.said.lamps) in
    rw c.in-Some.is (puts_as _ _ _ _ (ap (row_text c.args.writing.form (head_of c.args.head)) (c.coded.ensures
    ∙ ap (λ name. shown name c.state_word-word.result.now (cell_of c.text-lamps.result) c.parameter_of-parameter.result.now) c.state_name-name.ensures
    ∙ ap (λ word. shown (state_name how) word (cell_of c.text-lamps.result) c.parameter_of-parameter.result.now) c.state_word-word.ensures.text
    ∙ ap (λ cell. shown (state_name how) (state_text how) cell c.parameter_of-parameter.result.now) (c.text-lamps.ensures ∙ ap text_or_nothing (c.as_slice.ensures.value ∙ c.lamps_told-told.ensures.text))
    ∙ ap (shown (state_name how) (state_text how) lamps) (c.parameter_of-parameter.ensures
    ∙ ap (unwrap_or (name_in (naming_of c.args.writing.naming.now) code)) (c.as_slice-in-Some.ensures.value ∙ c.parameter_words-words.ensures)))) c.put_row.ensures)
