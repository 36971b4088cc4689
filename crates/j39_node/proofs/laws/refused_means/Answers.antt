use Rattle.j39_node.proofs.LawLemmas.{full_from, full_parts}
use Rattle.j39_node.proofs.Common.{accepted, can_send, holds, is_full, length, arith, inl, inr, not_both, told}
use Rattle.j39_node.proofs.AnswerCases.{refused_address, refused_value, is_accepted, refused_full}
use Rattle.j39_node.proofs.laws.refused_means.Goals as goal

pub returns : goal.returns
returns c = record {
  no_address = λ w H k now d answer is. refused_address (holds w H now) (can_send w d) (is_full w H) (length (accepted w H)) answer is.answered.1;
  bad_value = λ w H k now d answer is. refused_value (holds w H now) (can_send w d) (is_full w H) (length (accepted w H)) answer is.answered.1;
  full = λ w H c now d answer is.
      refused_full (holds w H now) (can_send w d) (is_full w H) (length (accepted w H)) answer is.answered.1 (full_parts _ _) (λ z y. not_both _ z (full_from _ _ y));
  accepts = λ w H c now d answer is held can room some.
      is_accepted (holds w H now) (can_send w d) (is_full w H) (length (accepted w H)) answer is.answered.1 held can
      (λ z. elim (full_parts (length (accepted w H)) (length (told H)) z) [ inl z ↦ absurd (omega (arith, z, room)) | inr z ↦ absurd (omega (arith, z, some)) ]);
}
