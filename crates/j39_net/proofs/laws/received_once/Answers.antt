use Rattle.j39_net.proofs.GotLemmas.{singles}
use Rattle.j39_net.proofs.laws.received_once.Goals as goal

pub returns : goal.returns
returns c = singles
