use Rattle.j39_address.proofs.SettlingLemmas.{claims_another, has_none_left}
use Rattle.j39_address.proofs.laws.moves_on.Goals as goal

pub returns : goal.returns
returns c = record { claims_another = claims_another; gives_up = λ old new call now answer. has_none_left old new call now answer }
