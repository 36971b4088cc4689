use Rattle.j39_transport.proofs.Unique.{counts as law}
use Rattle.j39_transport.proofs.laws.counts.Goals as goal

pub returns : goal.returns
returns c = law
