use Rattle.j39_node.proofs.UrgencyLaws as law
use Rattle.j39_node.proofs.transfer_laws.urgent_transfers_first.Goals as goal

pub returns : goal.returns
returns c = record {
  numbered = law.numbered_open;
  first = law.goes_first;
}
