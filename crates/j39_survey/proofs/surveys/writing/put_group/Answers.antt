-- A group that came has its line.
use Rattle.j39_survey.proofs.Common.{sym, eq-eqb, ne_eqb, puts_nothing}
use Rattle.j39_survey.specs.GroupCounts.{group_of}
use Rattle.j39_survey.specs.SurveyText.{group_text}
use Rattle.j39_survey.proofs.surveys.writing.put_group.Goals as goal

pub returns-then-group-eq0-clause-puts : goal.returns-then-group-eq0-clause-puts
unfolding group_text group_of
returns-then-group-eq0-clause-puts g c = λ came h.
    rw (sym h.arrived.count_is, eq-eqb _ _ c.if-group-eq0.true) (puts_nothing tt _)

pub returns-else-group-eq0-clause-puts : goal.returns-else-group-eq0-clause-puts
unfolding group_text group_of
returns-else-group-eq0-clause-puts g c = λ came h.
    rw (sym h.arrived.count_is, ne_eqb _ _ c.if-group-eq0.false) (c.put_line.ensures.puts came h)
