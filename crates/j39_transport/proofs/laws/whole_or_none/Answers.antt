use Rattle.j39_transport.proofs.Deciding.{whole_or_none as law}
use Rattle.j39_transport.proofs.laws.whole_or_none.Goals as goal

pub returns : goal.returns
returns c = law
