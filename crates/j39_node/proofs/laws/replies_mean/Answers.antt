use Rattle.j39_node.proofs.ReceptionLaws.{silent}
use Rattle.j39_node.proofs.ReceptionLaws as law
use Rattle.j39_node.proofs.laws.replies_mean.Goals as goal

pub returns : goal.returns
returns c = record {
  first = law.replies_first;
  before = law.replies_before;
  once = law.taken_rest;
  others = law.others_taken;
  none_waits = law.none_replied;
  lost = λ w H e. let s = silent w H e in (s.sessions, s.replies);
}
