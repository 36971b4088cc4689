use Rattle.j39_node.proofs.CountLaws.{counted, fits, free, limits, refused_full}
use Rattle.j39_node.proofs.Common.{all_transfers, can_transfer, holds, is_refused_now, length}
use Rattle.j39_node.proofs.AnswerCases.{refused_address, refused_value, transfer_accepts}
use Rattle.j39_node.proofs.CountLaws as law
use Rattle.j39_node.proofs.transfer_laws.transfer_means.Goals as goal

pub returns : goal.returns
returns c = record {
  no_address = λ w H k now priority group to bytes answer is. refused_address (holds w H now) (can_transfer w priority group to bytes) (is_refused_now w H now priority group to bytes) (length (all_transfers w H)) answer is.answered.1;
  bad_value = λ w H k now priority group to bytes answer is. refused_value (holds w H now) (can_transfer w priority group to bytes) (is_refused_now w H now priority group to bytes) (length (all_transfers w H)) answer is.answered.1;
  full = λ w H c now priority group to bytes answer is.
      refused_full (holds w H now) (can_transfer w priority group to bytes) (is_refused_now w H now priority group to bytes) (length (all_transfers w H)) answer is.answered.1
      (limits w H now priority group to bytes is.answered.0) (free w H now priority group to bytes is.answered.0);
  accepts = law.is_accepted;
  token = λ w H c now priority group to k bytes is. (transfer_accepts w H now priority group to k bytes is.answered.1).3;
  counted = λ w H c is. (counted w H is.answered, fits w H);
}
