use Rattle.j39_node.proofs.ReceptionLaws as law
use Rattle.j39_node.proofs.laws.strangers.Goals as goal

pub returns : goal.returns
returns c = record { to_others = law.to_others; from_others = law.from_others; waits = law.waits_stay; replies = law.replies_stay }
