-- The other lines, the number of unread ones, the first of these and what is said of them, one behind the other.
use Rattle.j39_survey.proofs.Common.{puts_as, puts_first, puts_then}
use Rattle.j39_survey.specs.SurveyModels.{shown_record}
use Rattle.j39_survey.specs.SurveyText.{row_in, shown_row, survey_end}
use Rattle.j39_survey.proofs.SurveyWritingLemmas.{each_line}
use Rattle.j39_survey.proofs.surveys.writing.put_end.Goals as goal

pub returns-in_err-put : goal.returns-in_err-put
unfolding survey_end
returns-in_err-put g c = puts_first _ _ _ _ _ c.from_residual.ensures.0 (c.in_err-put.ensures _ c.others_row.ensures)

pub returns-in_err-put-2 : goal.returns-in_err-put-2
unfolding survey_end
returns-in_err-put-2 g c =
    puts_then _ _ _ _ _ _ _ (c.in_ok-put.ensures _ c.others_row.ensures)
    (puts_first _ _ _ _ _ c.from_residual-in_err-put-2.ensures.0 (c.in_err-put-2.ensures _ c.count_row.ensures))

pub returns-in_err-put_unread : goal.returns-in_err-put_unread
unfolding survey_end
returns-in_err-put_unread g c =
    puts_then _ _ _ _ _ _ _ (c.in_ok-put.ensures _ c.others_row.ensures)
    (puts_then _ _ _ _ _ _ _ (c.in_ok-put-2.ensures _ c.count_row.ensures)
    (puts_first _ _ _ _ _ c.from_residual-in_err-put_unread.ensures.0
    (puts_as _ _ _ _ (each_line (λ line. row_in c.args.form (shown_row line)) shown_record _ _ c.as_slice.ensures.value) c.in_err-put_unread.ensures)))

pub returns : goal.returns
unfolding survey_end
returns g c =
    puts_then _ _ _ _ _ _ _ (c.in_ok-put.ensures _ c.others_row.ensures)
    (puts_then _ _ _ _ _ _ _ (c.in_ok-put-2.ensures _ c.count_row.ensures)
    (puts_then _ _ _ _ _ _ _
    (puts_as _ _ _ _ (each_line (λ line. row_in c.args.form (shown_row line)) shown_record _ _ c.as_slice.ensures.value) c.in_ok-put_unread.ensures)
    c.put_printed.ensures))
