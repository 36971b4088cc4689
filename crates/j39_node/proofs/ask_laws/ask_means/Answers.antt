use Rattle.j39_node.proofs.AskLaws.{opens, from_limit, limit}
use Rattle.j39_node.proofs.Common.{◌||◌, accepted, can_ask, holds, is_asking, is_full, length, open_ask}
use Rattle.j39_node.proofs.AnswerCases.{refused_address, refused_value, refused_full}
use Rattle.j39_node.proofs.AskLaws as law
use Rattle.j39_node.proofs.ask_laws.ask_means.Goals as goal

pub returns : goal.returns
returns c = record {
  no_address = λ w H k now group to answer is. refused_address (holds w H now) (can_ask w group to) (is_full w H || is_asking (open_ask H)) (length (accepted w H)) answer is.answered.1;
  bad_value = λ w H k now group to answer is. refused_value (holds w H now) (can_ask w group to) (is_full w H || is_asking (open_ask H)) (length (accepted w H)) answer is.answered.1;
  full = λ w H c now group to answer is.
      refused_full (holds w H now) (can_ask w group to) (is_full w H || is_asking (open_ask H)) (length (accepted w H)) answer is.answered.1 (limit w H is.answered.0) (from_limit w H is.answered.0);
  accepts = law.is_accepted;
  token = λ w H c now group to k is. (opens w H now group to k is.answered.1).2;
}
