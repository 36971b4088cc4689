-- The cells of an unread line.
use Rattle.j39_survey.proofs.Common.{◌∙◌, codes, text}
use Rattle.j39_survey.specs.SurveyText.{no_row}
use Rattle.j39_survey.proofs.surveys.writing.put_shown.Goals as goal

pub returns : goal.returns
returns g c = c.put.ensures _ (λ i. record no_row {
  kind = codes "line";
  line = c.number.ensures i;
  text = text ((c.as_slice.ensures.value ∙ c.shown_text-text.ensures) i);
})
