use Rattle.j39_node.proofs.RequestStrangers as law
use Rattle.j39_node.proofs.ask_laws.strangers_and_requests.Goals as goal

pub returns : goal.returns
returns c = record { of_another = law.of_another; to_another = law.to_another; ends = law.ends }
