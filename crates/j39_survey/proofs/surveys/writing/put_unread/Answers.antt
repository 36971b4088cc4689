-- One row after the other; after a fault a front of those that are left was written.
use Rattle.j39_survey.specs.SurveyModels.{shown_record}
use Rattle.j39_survey.specs.SurveyText.{row_in, shown_row}
use Rattle.j39_survey.proofs.SurveyWritingLemmas.{line_more, line_stops}
use Rattle.j39_survey.proofs.surveys.writing.put_unread.Goals as goal

pub loop-line-preserved : goal.loop-line-preserved
loop-line-preserved g c =
    line_more (λ x. row_in c.args.form (shown_row (shown_record x))) c.args.first.now c.loop-line.line-index c.line-item.result _ _ _
    c.loop-line-test.true c.line-item.is c.loop-line.invariant c.in_ok-put_shown.ensures

pub returns-in_err-put_shown : goal.returns-in_err-put_shown
returns-in_err-put_shown g c =
    line_stops (λ x. row_in c.args.form (shown_row (shown_record x))) c.args.first.now c.loop-line.line-index c.line-item.result _ _ _ _ _
    c.loop-line-test.true c.line-item.is c.from_residual.ensures.0 c.loop-line.invariant c.in_err-put_shown.ensures
