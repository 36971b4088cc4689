-- The head and the columns are those of the row.
use Rattle.j39_survey.proofs.Common.{◌∙◌, ap, ap₂, puts_as, row_text}
use Rattle.j39_survey.specs.SurveyText.{row_in}
use Rattle.j39_survey.proofs.surveys.survey_row.SurveyRow.put.Goals as goal

pub returns : goal.returns
returns g c = λ row is.
    puts_as _ _ _ _ (ap₂ (row_text c.args.form) c.row_head.ensures c.columns.ensures ∙ ap (row_in c.args.form) is) c.put_row.ensures
