-- The names, the number of lines, the interfaces and the frames of none of them, one behind the other.
use Rattle.j39_survey.proofs.Common.{puts_as, puts_first, puts_then}
use Rattle.j39_survey.specs.SurveyModels.{interface_record}
use Rattle.j39_survey.specs.SurveyText.{interface_row, row_in, survey_head}
use Rattle.j39_survey.proofs.SurveyWritingLemmas.{each_line}
use Rattle.j39_survey.proofs.surveys.writing.put_head.Goals as goal

pub returns-in_err-put_all : goal.returns-in_err-put_all
unfolding survey_head
returns-in_err-put_all g c =
    puts_first _ _ _ _ _ c.from_residual.ensures.0 (puts_as _ _ _ _ c.names_in.ensures c.in_err-put_all.ensures.puts)

pub returns-in_err-put : goal.returns-in_err-put
unfolding survey_head
returns-in_err-put g c =
    puts_then _ _ _ _ _ _ _ (puts_as _ _ _ _ c.names_in.ensures c.in_ok-put_all.ensures.puts)
    (puts_first _ _ _ _ _ c.from_residual-in_err-put.ensures.0 (c.in_err-put.ensures _ c.count_row.ensures))

pub returns-in_err-put_interfaces : goal.returns-in_err-put_interfaces
unfolding survey_head
returns-in_err-put_interfaces g c =
    puts_then _ _ _ _ _ _ _ (puts_as _ _ _ _ c.names_in.ensures c.in_ok-put_all.ensures.puts)
    (puts_then _ _ _ _ _ _ _ (c.in_ok-put.ensures _ c.count_row.ensures)
    (puts_first _ _ _ _ _ c.from_residual-in_err-put_interfaces.ensures.0
    (puts_as _ _ _ _ (each_line (λ i. row_in c.args.form (interface_row i)) interface_record _ _ c.as_slice.ensures.value) c.in_err-put_interfaces.ensures)))

pub returns : goal.returns
unfolding survey_head
returns g c =
    puts_then _ _ _ _ _ _ _ (puts_as _ _ _ _ c.names_in.ensures c.in_ok-put_all.ensures.puts)
    (puts_then _ _ _ _ _ _ _ (c.in_ok-put.ensures _ c.count_row.ensures)
    (puts_then _ _ _ _ _ _ _
    (puts_as _ _ _ _ (each_line (λ i. row_in c.args.form (interface_row i)) interface_record _ _ c.as_slice.ensures.value) c.in_ok-put_interfaces.ensures)
    c.put_elsewhere.ensures))
