use Rattle.j39_reports.proofs.SummaryAccountLemmas.{summary_begins, summary_one}
use Rattle.j39_reports.proofs.summaries.account.SummaryAccountAccount.laws.Goals as goal

pub returns : goal.returns
returns c = record {
  begins = λ subject. summary_begins subject.form subject.which subject.rows;
  one = λ subject. summary_one subject.form subject.which subject.rows;
}
