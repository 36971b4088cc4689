use Rattle.j39_net.proofs.HeardWhole.{got}
use Rattle.j39_net.proofs.laws.broadcasts_got.Goals as goal

pub returns : goal.returns
returns c = got
