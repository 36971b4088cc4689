use Rattle.j39_application.proofs.PeerLemmas as law
use Rattle.j39_application.proofs.laws.peers_stand_at_one_address.Goals as goal

pub returns : goal.returns
returns c = law.at_one
