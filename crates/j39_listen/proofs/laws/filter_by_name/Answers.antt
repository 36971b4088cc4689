use Rattle.j39_listen.proofs.FilterLemmas.{by_name}
use Rattle.j39_listen.proofs.laws.filter_by_name.Goals as goal

pub returns : goal.returns
returns c = by_name
