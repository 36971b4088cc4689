use Rattle.j39_address.proofs.SmallestLemmas.{stays, stays_alone, stays_holding}
use Rattle.j39_address.proofs.laws.smallest_stays.Goals as goal

pub returns : goal.returns
returns c = record { stays = stays; alone = stays_alone; holds = stays_holding }
