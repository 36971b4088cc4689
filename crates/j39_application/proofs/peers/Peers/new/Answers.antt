use Rattle.std.proofs.Common.{refl}
use Rattle.j39_application.proofs.PeerLemmas.{zeros}
use Rattle.j39_application.proofs.peers.Peers.new.Goals as goal

pub returns : goal.returns
returns c = record { told = λ a l. rw (zeros a) refl; heard = λ a l. rw (zeros a) refl }
