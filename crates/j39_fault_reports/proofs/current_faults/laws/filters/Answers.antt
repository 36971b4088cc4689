use Rattle.j39_fault_reports.proofs.NowLineLemmas.{taken_all}
use Rattle.j39_fault_reports.proofs.current_faults.laws.filters.Goals as goal

pub returns : goal.returns
returns c = record { all = taken_all }
