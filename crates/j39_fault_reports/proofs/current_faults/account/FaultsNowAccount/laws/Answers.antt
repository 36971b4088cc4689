use Rattle.j39_fault_reports.proofs.CurrentAccountLemmas.{now_begins, now_one}
use Rattle.j39_fault_reports.proofs.current_faults.account.FaultsNowAccount.laws.Goals as goal

pub returns : goal.returns
returns c = record { begins = λ (form, subject). now_begins form subject; one = λ (form, subject). now_one form subject }
