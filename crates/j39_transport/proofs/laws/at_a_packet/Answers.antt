use Rattle.j39_transport.proofs.Unique.{at_a_packet as law}
use Rattle.j39_transport.proofs.laws.at_a_packet.Goals as goal

pub returns : goal.returns
returns c = law
