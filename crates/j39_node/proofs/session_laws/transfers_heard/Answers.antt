use Rattle.j39_node.proofs.SessionLaws as law
use Rattle.j39_node.proofs.session_laws.transfers_heard.Goals as goal

pub returns : goal.returns
returns c = law.received
