use Rattle.j39_node.proofs.ReceptionLaws as law
use Rattle.j39_node.proofs.laws.acknowledged_is_there.Goals as goal

pub returns : goal.returns
returns c = record { says = law.says_it; whole = law.acknowledged_is; only = law.only_whole; window = law.grants_within }
