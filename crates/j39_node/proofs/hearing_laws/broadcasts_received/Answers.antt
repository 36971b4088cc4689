use Rattle.j39_node.proofs.HearingLaws as law
use Rattle.j39_node.proofs.hearing_laws.broadcasts_received.Goals as goal

pub returns : goal.returns
returns c = record { in_order = law.in_order; got = law.released; of_one = law.came; senders = law.each_sender }
