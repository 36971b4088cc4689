use Rattle.j39_net.proofs.JoinLemmas.{reported}
use Rattle.j39_net.proofs.laws.reported.Goals as goal

pub returns : goal.returns
returns c = reported
