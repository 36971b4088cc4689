-- One group after the other.
use Rattle.j39_survey.proofs.Common.{naming_of, ◌≡◌, ◌∙◌, ◌+◌, ap, refl, arith, puts_as, puts_done}
use Rattle.j39_survey.specs.SurveyText.{groups_from}
use Rattle.j39_survey.proofs.SurveyWritingLemmas.{groups_more, groups_none, groups_one, groups_stop}
use Rattle.j39_survey.proofs.surveys.writing.put_each.Goals as goal

pub loop-low-init : goal.loop-low-init
loop-low-init g c = ((λ came h. groups_none c.args.form (naming_of c.args.naming.now) came c.args.first _), refl)

pub loop-low-preserved : goal.loop-low-preserved
loop-low-preserved g c =
    let at = c.args.first + c.loop-low.low in (
      (λ came h. groups_more c.args.form (naming_of c.args.naming.now) came c.args.first c.loop-low.low at 1 _ _ _ _ refl refl (c.loop-low.invariant.0 came h)
          (puts_as _ _ _ _ (groups_one c.args.form (naming_of c.args.naming.now) came at) (c.in_ok-put_at.ensures.puts came h))),
      c.in_ok-put_at.ensures.mark ∙ c.loop-low.invariant.1,
    )

pub returns-in_err-put_at-clause-puts : goal.returns-in_err-put_at-clause-puts
returns-in_err-put_at-clause-puts g c = λ came h.
    let at = c.args.first + c.loop-low.low in
    groups_stop c.args.form (naming_of c.args.naming.now) came c.args.first c.loop-low.low at 1 256 _ _ _ _ _ refl (omega (arith, c.loop-low-test.true)) c.from_residual.ensures.0 (c.loop-low.invariant.0 came h)
    (puts_as _ _ _ _ (groups_one c.args.form (naming_of c.args.naming.now) came at) (c.in_err-put_at.ensures.puts came h))

pub returns-clause-puts : goal.returns-clause-puts
returns-clause-puts g c = λ came h.
    let whole : c.loop-low.low ≡ 256 = omega arith in
    puts_as _ _ _ _ (ap (groups_from c.args.form (naming_of c.args.naming.now) came c.args.first) whole) (puts_done _ _ _ _ (c.loop-low.invariant.0 came h))
