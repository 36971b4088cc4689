use Rattle.j39_reports.proofs.Common.{ap, sym, ◌∙◌, refl, first_stamp, messages_taken, Hearing, List, Line}
use Rattle.j39_reports.specs.SummaryRun.{output_of}
use Rattle.j39_reports.proofs.summaries.laws.one_summary.Goals as goal

pub returns-clause-at_most : goal.returns-clause-at_most
returns-clause-at_most c = λ clock which groups bus F x y (hs, are_x, is_x) (ks, are_y, is_y).
    is_x ∙ ap (λ (heard : List Hearing). output_of (Line clock) groups heard (messages_taken which (first_stamp F) heard)) (c.one_report.ensures.heard groups F hs ks are_x are_y) ∙ sym is_y

pub returns-clause-at_least : goal.returns-clause-at_least
returns-clause-at_least c = λ clock which groups bus F.
    let h = c.some_report.ensures.heard groups F in
    (output_of (Line clock) groups h.0 (messages_taken which (first_stamp F) h.0), (h.0, h.1, refl))
