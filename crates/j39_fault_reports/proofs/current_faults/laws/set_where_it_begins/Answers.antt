-- By the message right before.
use Rattle.j39_fault_reports.proofs.CurrentLemmas.{set_begins}
use Rattle.j39_fault_reports.specs.Spoken.{sent_before, spoken_in}
use Rattle.j39_fault_reports.proofs.current_faults.laws.set_where_it_begins.Goals as goal

pub returns : goal.returns
returns c = λ ms m code. set_begins code (sent_before (spoken_in ms) m)
