use Rattle.j39_node.proofs.AsideLaws.{aside_is, same_answers}
use Rattle.j39_node.proofs.PromptLaws.{answered_from as before}
use Rattle.j39_node.proofs.Common.{At, Hear, sym, ◌∙◌, ◌∷◌}
use Rattle.j39_node.proofs.AsideLaws as law
use Rattle.j39_node.proofs.laws.strangers_unheard.Goals as goal

pub returns : goal.returns
returns c = record {
  alike = λ w later H when f g a b h.
      let right = (before w later (At when (Hear f) ∷ H) h).0 in
      same_answers w later (At when (Hear f) ∷ H) (At when (Hear g) ∷ H)
      (aside_is w f a H when right ∙ sym (aside_is w g b H when right)) (λ r. r) h;
  time = law.timely;
}
