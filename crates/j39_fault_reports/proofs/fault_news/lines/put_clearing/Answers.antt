-- The row of it.
use Rattle.j39_fault_reports.proofs.Common.{◌∙◌, List, ℕ, ap, ap₂, codes, puts_as, row_text}
use Rattle.j39_fault_reports.specs.FaultRows.{uncoded}
use Rattle.j39_rows.specs.Row.{nothing}
use Rattle.j39_fault_reports.proofs.fault_news.lines.put_clearing.Goals as goal

pub returns : goal.returns
returns g c =
    puts_as _ _ _ _ (ap₂ (row_text c.args.form) c.message_head-head.ensures (c.uncoded-said.ensures
    ∙ ap (λ (word : List ℕ). uncoded (codes "state") word (codes "all") nothing (codes "all codes")) (c.as_slice.ensures.value ∙ c.clear_word-word.ensures))) c.put_row.ensures
