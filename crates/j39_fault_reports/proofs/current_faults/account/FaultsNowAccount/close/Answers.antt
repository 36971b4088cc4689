use Rattle.j39_io.proofs.DeviceLemmas.{on_err}
use Rattle.j39_fault_reports.proofs.CurrentAccountLemmas.{now_closes, now_stops}
use Rattle.j39_fault_reports.proofs.current_faults.account.FaultsNowAccount.close.Goals as goal

pub returns-in_err-lines-clause-stops : goal.returns-in_err-lines-clause-stops
returns-in_err-lines-clause-stops g c = on_err c.from_residual.result _ (λ (form, subject). now_stops form subject c.args.self.now _ _ (λ which F chosen. (c.in_err-lines.ensures.puts which F chosen).front))

pub returns-clause-closes : goal.returns-clause-closes
returns-clause-closes g c = λ (form, subject). now_closes form subject c.args.self.now c.in_ok-lines.lines _ _ c.in_ok-lines.ensures.lines (λ which F chosen. (c.in_ok-lines.ensures.puts which F chosen).written)
