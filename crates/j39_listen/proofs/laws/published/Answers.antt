use Rattle.j39_listen.proofs.Headline.{published as law}
use Rattle.j39_listen.proofs.laws.published.Goals as goal

pub returns : goal.returns
returns c = law
