use Rattle.j39_node.proofs.SessionLaws as law
use Rattle.j39_node.proofs.session_laws.session_packets_heard.Goals as goal

pub returns : goal.returns
returns c = record { next = law.next; whole = law.last_one; strays = law.strayed; of_none = law.of_none }
