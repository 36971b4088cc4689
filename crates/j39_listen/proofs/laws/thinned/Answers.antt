use Rattle.j39_listen.proofs.Headline.{thinned as law}
use Rattle.j39_listen.proofs.laws.thinned.Goals as goal

pub returns : goal.returns
returns c = law
