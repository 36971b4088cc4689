use Rattle.j39_reports.proofs.Common.{arith, on_err}
use Rattle.j39_reports.proofs.SummaryAccountLemmas.{summary_closes, summary_stops}
use Rattle.j39_reports.proofs.summaries.account.SummaryAccountAccount.close.Goals as goal

pub returns-in_err-put_rows-clause-stops : goal.returns-in_err-put_rows-clause-stops
returns-in_err-put_rows-clause-stops g c = on_err c.from_residual.result _ (λ subject. summary_stops subject.form subject.which subject.rows c.args.self.now _ _ c.in_err-put_rows.ensures.front)

pub returns-clause-closes : goal.returns-clause-closes
returns-clause-closes g c = λ subject. summary_closes subject.form subject.which subject.rows c.args.self.now c.len.result _ _ c.len.ensures (omega arith) c.in_ok-put_rows.ensures.written
