use Rattle.j39_net.proofs.TransferLemmas.{transfers_once}
use Rattle.j39_net.proofs.laws.transfers_once.Goals as goal

pub returns : goal.returns
returns c = transfers_once
