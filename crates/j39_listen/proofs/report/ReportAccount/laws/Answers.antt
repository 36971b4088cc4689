use Rattle.j39_listen.proofs.ReportAccount.{report_begins, report_one}
use Rattle.j39_listen.proofs.report.ReportAccount.laws.Goals as goal

pub returns : goal.returns
returns g c = record {
  begins = λ subject. report_begins g.E.EntryForm.text_by subject g.row.E.Denot g.E.EntryForm.table_of;
  one = λ subject. report_one g.E.EntryForm.text_by subject;
}
