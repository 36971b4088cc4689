-- The row of the note.
use Rattle.std.proofs.Common.{refl}
use Rattle.j39_survey.specs.SurveyText.{note_row}
use Rattle.j39_survey.proofs.surveys.writing.put_note.Goals as goal

pub returns-in-Record : goal.returns-in-Record
returns-in-Record g c = rw c.in-Record.is (c.put.ensures note_row refl)

pub returns-in-Object : goal.returns-in-Object
returns-in-Object g c = rw c.in-Object.is (c.put-in-Object.ensures note_row refl)
