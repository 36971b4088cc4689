use Rattle.j39_address.proofs.HolderLemmas.{Holding-from, Holds-from}
use Rattle.j39_address.proofs.laws.holds_since_a_claim.Goals as goal

pub returns : goal.returns
returns c = λ C i n a. (Holding-from C i n a, Holds-from C i n a)
