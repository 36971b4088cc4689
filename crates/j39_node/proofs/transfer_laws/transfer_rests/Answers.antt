use Rattle.j39_node.proofs.RestLaws as law
use Rattle.j39_node.proofs.transfer_laws.transfer_rests.Goals as goal

pub returns : goal.returns
returns c = record {
  rests = law.rests_so;
  moves = law.rests_on;
  only = law.only;
  refused = law.leaves_rests;
}
