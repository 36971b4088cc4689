use Rattle.j39_node.proofs.LawLemmas.{claimed_or_not, still_owed}
use Rattle.j39_node.proofs.Common.{At, Hear, owes_claim, ◌++◌, ◌∷◌, or_right}
use Rattle.j39_node.proofs.LawLemmas as law
use Rattle.j39_node.proofs.laws.claims.Goals as goal

pub returns : goal.returns
returns c = record {
  next = λ w H later c now when f g is none called.
      claimed_or_not w (later ++ At when (Hear f) ∷ H) c now g is
      (still_owed w later (At when (Hear f) ∷ H) none (or_right (owes_claim w H) _ called));
  second = law.second_claim;
  once = law.answered_once;
  at_once = law.claims_at_once;
  waits = law.cannot_claim_waits;
  most = law.most_delayed;
  anew = law.anew_claims;
  only = law.claims_only;
}
