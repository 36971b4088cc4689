-- One line after the other.
use Rattle.j39_survey.proofs.Common.{◌∙◌, ◌++◌, [], sym, ap, subst, refl, take, drop, append_assoc, append-nil, take-append-drop, arith, common_steps}
use Rattle.j39_survey.specs.SurveySoFar.{HasTaken}
use Rattle.j39_survey.proofs.SurveyPieceLemmas.{takes_then_asks}
use Rattle.j39_survey.proofs.surveys.pieces.Pieces.take.Goals as goal

pub loop-rest-init : goal.loop-rest-init
loop-rest-init c = ([], refl, (λ given taken h. subst (HasTaken c.args.self.now given) (sym (append-nil taken)) h))

pub loop-rest-preserved : goal.loop-rest-preserved
loop-rest-preserved c =
    let inv = c.loop-rest.invariant in
    let n = c.in-Ok.n in
    let rest = c.loop-rest.rest.now in
    let cut = ap (λ xs. inv.0 ++ xs) (sym (take-append-drop n rest)) ∙ sym (append_assoc inv.0 (take n rest) (drop n rest)) in
    let left = ap (λ xs. (inv.0 ++ take n rest) ++ xs) (sym c.split_at.ensures.back) in (
      inv.0 ++ take n rest,
      inv.1 ∙ (cut ∙ left),
      (λ given taken h. subst (HasTaken c.take_line.new.self given) (append_assoc taken inv.0 (take n rest)) (c.in-Ok.ensures.taken given (taken ++ inv.0) (inv.2 given taken h))),
    )

pub returns-in-Err-clause-asked : goal.returns-in-Err-clause-asked
returns-in-Err-clause-asked c =
    let inv = c.loop-rest.invariant in
    takes_then_asks c.args.self.now c.loop-rest.self inv.0 c.loop-rest.rest.now c.args.piece.now inv.1 inv.2 c.in-Err.ensures.asked

pub returns-clause-taken : goal.returns-clause-taken
returns-clause-taken c = grind (arith, common_steps)
