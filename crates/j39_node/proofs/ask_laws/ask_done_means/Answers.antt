use Rattle.j39_node.proofs.AskLaws.{out_of, word_of}
use Rattle.j39_node.proofs.Common.{Acknowledged, Answered, refl}
use Rattle.j39_node.proofs.AskLaws as law
use Rattle.j39_node.proofs.ask_laws.ask_done_means.Goals as goal

pub returns : goal.returns
returns c = record {
  told = law.in_turn;
  answered = λ w H c k q is o. word_of w H q Answered refl (out_of w H c k Answered q is o);
  acknowledged = λ w H c k a q is o. word_of w H q (Acknowledged a) refl (out_of w H c k (Acknowledged a) q is o);
  heard = law.first_stands;
  timed_out = law.timed_out_means;
  times_out = law.times_out;
  withdrawn = law.withdrawn_means;
  all = law.all_told;
}
