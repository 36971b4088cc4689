use Rattle.j39_fault_reports.proofs.AskedLemmas.{taken_all, whole_told}
use Rattle.j39_fault_reports.proofs.fault_news.laws.filters.Goals as goal

pub returns : goal.returns
returns c = record { whole = λ which first telling conversions before m. whole_told which first m telling conversions before; all = taken_all }
