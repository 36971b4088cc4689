use Rattle.j39_node.proofs.SoundLemmas.{sound}
use Rattle.j39_node.proofs.Common.{acknowledged, arith, due, eq-eqb, eqb-true, false_from_ne_true, holds, length, nat_eq, ◌-◌, ◌∙◌}
use Rattle.j39_node.proofs.AnswerCases.{accepts, answer_is}
use Rattle.j39_node.proofs.LawLemmas as law
use Rattle.j39_node.proofs.laws.acknowledgments.Goals as goal

pub returns : goal.returns
returns c = record {
  in_order = λ w H c is. (sound w H is.answered).desk.1;
  first = law.acknowledged_first;
  accepts = λ w H c now r a result is held at l. is.answered.1 ∙ answer_is tt held (eq-eqb _ _ at) (false_from_ne_true _ (λ z. (let y = eqb-true _ _ z in omega (arith, y, l))));
  only = λ w H c now r a is.
      let x = accepts (holds w H now) (nat_eq r.destination w.address) (nat_eq (length (due w H) - length (acknowledged H)) 16) tt tt is.answered.1 in (x.0, eqb-true _ _ x.1);
}
