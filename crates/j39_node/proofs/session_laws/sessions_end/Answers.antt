use Rattle.j39_node.proofs.SessionLaws as law
use Rattle.j39_node.proofs.session_laws.sessions_end.Goals as goal

pub returns : goal.returns
returns c = record { begins = law.begins_anew; runs = law.runs; over = law.over; aborts = law.aborts; ends = law.ends }
