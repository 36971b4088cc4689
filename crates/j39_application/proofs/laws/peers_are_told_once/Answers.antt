use Rattle.j39_application.proofs.PeerLemmas as law
use Rattle.j39_application.proofs.laws.peers_are_told_once.Goals as goal

pub returns : goal.returns
returns c = law.rising
