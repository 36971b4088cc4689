use Rattle.j39_node.proofs.LawLemmas.{held_now, holding_is}
use Rattle.j39_node.proofs.Common.{address_after, moment, sym, ◌∙◌}
use Rattle.j39_node.proofs.LawLemmas as law
use Rattle.j39_node.proofs.laws.who.Goals as goal

pub returns : goal.returns
returns c = record {
  holding = λ w H a.
      let h = holding_is w (address_after w H) a in
      let k = held_now (address_after w H) (moment H) in
      (λ e. ((h.0 e).0, k ∙ (h.0 e).1), λ z. h.1 (z.0, sym k ∙ z.1));
  cannot = law.cannot;
}
