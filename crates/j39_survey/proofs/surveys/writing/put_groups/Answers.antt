-- The groups of one page and PF after the other.
use Rattle.j39_survey.proofs.Common.{naming_of, ◌∙◌, ◌*◌, refl, arith, puts_done}
use Rattle.j39_survey.specs.GroupCounts.{came_in}
use Rattle.j39_survey.proofs.SurveyWritingLemmas.{groups_all, groups_more, groups_none, groups_stop}
use Rattle.j39_survey.proofs.surveys.writing.put_groups.Goals as goal

pub loop-front-init : goal.loop-front-init
loop-front-init g c = ((λ F heard h. groups_none c.args.form (naming_of c.args.naming.now) (came_in F heard) 0 _), refl)

pub loop-front-preserved : goal.loop-front-preserved
loop-front-preserved g c = (
  (λ F heard h. groups_more c.args.form (naming_of c.args.naming.now) (came_in F heard) 0 (c.loop-front.front * 256) (c.loop-front.front * 256) 256 _ _ _ _ (omega arith) (omega arith) (c.loop-front.invariant.0 F heard h) (c.in_ok-put_front.ensures.puts F heard h)),
  c.in_ok-put_front.ensures.mark ∙ c.loop-front.invariant.1,
)

pub returns-in_err-put_front-clause-puts : goal.returns-in_err-put_front-clause-puts
returns-in_err-put_front-clause-puts g c = λ F heard h.
    groups_all c.args.form (naming_of c.args.naming.now) (came_in F heard) 262144 _ _ refl
    (groups_stop c.args.form (naming_of c.args.naming.now) (came_in F heard) 0 (c.loop-front.front * 256) (c.loop-front.front * 256) 256 262144 _ _ _ _ _ (omega arith) (omega (arith, c.loop-front-test.true)) c.from_residual.ensures.0
    (c.loop-front.invariant.0 F heard h) (c.in_err-put_front.ensures.puts F heard h))

pub returns-clause-puts : goal.returns-clause-puts
returns-clause-puts g c = λ F heard h. groups_all c.args.form (naming_of c.args.naming.now) (came_in F heard) (c.loop-front.front * 256) _ _ (omega arith) (puts_done _ _ _ _ (c.loop-front.invariant.0 F heard h))
