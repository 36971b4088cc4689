use Rattle.j39_transport.proofs.Unique.{one_message as law}
use Rattle.j39_transport.proofs.laws.one_message.Goals as goal

pub returns : goal.returns
returns c = law
