-- One group, or 256.
use Rattle.j39_names.specs.Naming.{naming_of}
use Rattle.j39_io.proofs.PutsLemmas.{puts_as}
use Rattle.j39_survey.specs.GroupCounts.{came_in}
use Rattle.j39_survey.proofs.SurveyWritingLemmas.{groups_directed}
use Rattle.j39_survey.proofs.surveys.writing.put_front.Goals as goal

pub returns-then-front-lt240-clause-puts : goal.returns-then-front-lt240-clause-puts
returns-then-front-lt240-clause-puts g c = λ F heard h.
    puts_as _ _ _ _ (groups_directed c.args.form (naming_of c.args.naming.now) F heard c.args.front c.requires c.if-front-lt240.true) (c.put_at.ensures.puts (came_in F heard) h)

pub returns-else-front-lt240-clause-puts : goal.returns-else-front-lt240-clause-puts
returns-else-front-lt240-clause-puts g c = λ F heard h. c.put_each.ensures.puts (came_in F heard) h
