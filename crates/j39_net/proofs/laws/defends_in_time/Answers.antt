use Rattle.j39_net.proofs.DefenceLemmas.{defends}
use Rattle.j39_net.proofs.laws.defends_in_time.Goals as goal

pub returns : goal.returns
returns c = defends
