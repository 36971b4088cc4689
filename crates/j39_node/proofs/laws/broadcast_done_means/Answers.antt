use Rattle.j39_node.proofs.LaneLaws as law
use Rattle.j39_node.proofs.laws.broadcast_done_means.Goals as goal

pub returns : goal.returns
returns c = record { told = law.in_turn; done = law.done_means; withdrawn = law.withdrawn_means; all = law.all_told }
