-- The head, the groups and the end, one behind the other, and a fault in each.
use Rattle.j39_survey.proofs.Common.{puts_as, puts_failed, frames_of, first_of_three, second_of_three, third_of_three}
use Rattle.j39_survey.specs.LogLines.{spelled_in}
use Rattle.j39_survey.specs.SurveyText.{survey_text}
use Rattle.j39_survey.proofs.SurveyWritingLemmas.{end_is, head_is, puts_passed}
use Rattle.j39_survey.proofs.surveys.writing.put_survey.Goals as goal

pub returns-in_err-put_head-clause-puts : goal.returns-in_err-put_head-clause-puts
unfolding survey_text
returns-in_err-put_head-clause-puts g c = λ given lines h.
    first_of_three _ _ _ _ _ _ c.from_residual.ensures.0 (puts_as _ _ _ _ (head_is c.args.form c.args.survey.now given lines h) c.in_err-put_head.ensures)

pub returns-in_err-put_groups-clause-puts : goal.returns-in_err-put_groups-clause-puts
unfolding survey_text
returns-in_err-put_groups-clause-puts g c = λ given lines h.
    second_of_three _ _ _ _ _ _ _ _ _ c.from_residual-in_err-put_groups.ensures.0
    (puts_as _ _ _ _ (head_is c.args.form c.args.survey.now given lines h) c.in_ok-put_head.ensures)
    (c.in_err-put_groups.ensures.puts (frames_of given (spelled_in lines)) h.heard h.met.counted)

pub returns-in_err-put_end-clause-puts : goal.returns-in_err-put_end-clause-puts
unfolding survey_text
returns-in_err-put_end-clause-puts g c = λ given lines h.
    puts_failed _ _ _ _ c.from_residual-in_err-put_end.ensures.0
    (third_of_three _ _ _ _ _ _ _ _ _ _ (puts_as _ _ _ _ (head_is c.args.form c.args.survey.now given lines h) c.in_ok-put_head.ensures)
    (c.in_ok-put_groups.ensures.puts (frames_of given (spelled_in lines)) h.heard h.met.counted)
    (puts_as _ _ _ _ (end_is c.args.form c.args.survey.now given lines c.is_printed.result h (c.is_printed.ensures given lines h)) c.in_err-put_end.ensures))

pub returns-clause-puts : goal.returns-clause-puts
unfolding survey_text
returns-clause-puts g c = λ given lines h.
    puts_passed _ _ _ _ _ _
    (third_of_three _ _ _ _ _ _ _ _ _ _ (puts_as _ _ _ _ (head_is c.args.form c.args.survey.now given lines h) c.in_ok-put_head.ensures)
    (c.in_ok-put_groups.ensures.puts (frames_of given (spelled_in lines)) h.heard h.met.counted)
    (puts_as _ _ _ _ (end_is c.args.form c.args.survey.now given lines c.is_printed.result h (c.is_printed.ensures given lines h)) c.in_ok-put_end.ensures))
    c.flush.ensures.bytes c.flush.ensures.mark
