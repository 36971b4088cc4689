use Rattle.j39_transport.proofs.Finishing.{completes as law}
use Rattle.j39_transport.proofs.laws.completes.Goals as goal

pub returns : goal.returns
returns c = law
