use Rattle.j39_node.proofs.SinceLemmas.{Stands, claimed_since, held_cases, in_time, stands_since}
use Rattle.j39_node.proofs.Common.{At, Call, List, Message, Some, TakeFrame, address_after, address_claimed_group, ap, is_claim, nat_eq, passed_in, step, subst, sym, true, ◌∷◌, ◌≡◌}
use Rattle.j39_node.proofs.laws.held_means.Goals as goal

pub returns : goal.returns
returns c = record {
  since = λ w H c now is h.
      let x = held_cases (step H now) (address_after w H) h in
      (x.0, claimed_since w H x.0 is.answered x.1, x.2);
  in_time = λ w H now e h n l.
      let k : is_claim h.claim ≡ true = ap (λ (m : Message). nat_eq m.group address_claimed_group) h.claims in
      let s = stands_since w h.later h.earlier h.at h.claim k h.stays in
      let z = subst (λ (G : List Call). Stands (address_after w G) (passed_in h.later (At h.at (TakeFrame (Some h.claim)) ∷ h.earlier))) (sym h.is) s in
      in_time (step H now) e (address_after w H) (subst (Stands (address_after w H)) (sym h.passed) z) n l;
}
