use Rattle.j39_node.proofs.StrangerLaws as law
use Rattle.j39_node.proofs.laws.strangers_and_sending.Goals as goal

pub returns-clause-next : goal.returns-clause-next
returns-clause-next c = law.frame_stays
