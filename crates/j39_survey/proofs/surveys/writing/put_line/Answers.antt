use Rattle.j39_survey.proofs.surveys.writing.put_line.Goals as goal

pub returns-clause-puts : goal.returns-clause-puts
returns-clause-puts g c = λ came h. c.put.ensures _ (c.group_row.ensures came h)
