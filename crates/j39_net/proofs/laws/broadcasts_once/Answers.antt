use Rattle.j39_net.proofs.CarriedLemmas.{broadcasts_once}
use Rattle.j39_net.proofs.laws.broadcasts_once.Goals as goal

pub returns : goal.returns
returns c = broadcasts_once
