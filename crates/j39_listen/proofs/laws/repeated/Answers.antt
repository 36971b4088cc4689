use Rattle.j39_listen.proofs.Headline.{repeated as law}
use Rattle.j39_listen.proofs.laws.repeated.Goals as goal

pub returns : goal.returns
returns c = law
