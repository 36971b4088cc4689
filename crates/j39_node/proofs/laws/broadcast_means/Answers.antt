use Rattle.j39_node.proofs.LaneLaws.{limit, no_limit}
use Rattle.j39_node.proofs.Common.{broadcasts, can_broadcast, holds, is_busy, length, arith, inl, inr}
use Rattle.j39_node.proofs.AnswerCases.{refused_address, refused_value, broadcast_accepts, is_accepted, refused_full}
use Rattle.j39_node.proofs.laws.broadcast_means.Goals as goal

pub returns : goal.returns
returns c = record {
  no_address = λ w H k now group bytes answer is. refused_address (holds w H now) (can_broadcast group bytes) (is_busy w H) (length (broadcasts w H)) answer is.answered.1;
  bad_value = λ w H k now group bytes answer is. refused_value (holds w H now) (can_broadcast group bytes) (is_busy w H) (length (broadcasts w H)) answer is.answered.1;
  full = λ w H c now group bytes answer is.
      refused_full (holds w H now) (can_broadcast group bytes) (is_busy w H) (length (broadcasts w H)) answer is.answered.1 (limit w H is.answered.0) (no_limit w H is.answered.0);
  accepts = λ w H c now group bytes answer is held can box room some.
      is_accepted (holds w H now) (can_broadcast group bytes) (is_busy w H) (length (broadcasts w H)) answer is.answered.1 held can
      (λ f. elim (limit w H is.answered.0 f) [
        | inl z ↦ absurd (omega (arith, z, box))
        | inr o ↦ elim o [ inl z ↦ absurd (omega (arith, z, room)) | inr z ↦ absurd (omega (arith, z, some)) ]
      ]);
  token = λ w H c now group k bytes is. (broadcast_accepts w H now group k bytes is.answered.1).3;
}
