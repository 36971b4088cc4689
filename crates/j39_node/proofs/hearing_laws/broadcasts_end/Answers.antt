use Rattle.j39_node.proofs.HearingLaws as law
use Rattle.j39_node.proofs.hearing_laws.broadcasts_end.Goals as goal

pub returns : goal.returns
returns c = record { begins = law.account_begins; runs = law.account_runs; heard = law.found_timely; ticked = law.ticked_timely; ends = law.account_ends }
