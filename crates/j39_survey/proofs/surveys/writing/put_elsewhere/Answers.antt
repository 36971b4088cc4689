use Rattle.j39_survey.proofs.Common.{ne_eqb}
use Rattle.j39_survey.proofs.surveys.writing.put_elsewhere.Goals as goal

pub returns-else-frames-eq0 : goal.returns-else-frames-eq0
returns-else-frames-eq0 g c = rw (ne_eqb _ _ c.if-frames-eq0.false) (c.put.ensures _ c.elsewhere_row.ensures)
