use Rattle.j39_reports.proofs.Common.{[], refl, which_of, filtered_of, HasReported, Subject, if_ok, asked_behind, whole_behind, reported_makes}
use Rattle.j39_reports.specs.EntryText.{entry_record, header_text}
use Rattle.j39_reports.specs.ReportRecords.{MakesRecords}
use Rattle.j39_reports.specs.declared.report_records.records.RecordForm.{RecordForm}
use Rattle.j39_reports.proofs.report_records.run.report_csv.Goals as goal

pub returns-clause-ran : goal.returns-clause-ran
returns-clause-ran g c = c.run_headed.ensures.ran (record { rows = c.args.wanted.groups.now; which = which_of c.args.wanted.filter })
    (filtered_of entry_record c.args.wanted.groups.now (which_of c.args.wanted.filter) 0 []) (λ name. c.new-report.ensures) refl

pub returns-clause-kept_up : goal.returns-clause-kept_up
returns-clause-kept_up g c = λ read.
    let subject : Subject = record { rows = c.args.wanted.groups.now; which = which_of c.args.wanted.filter } in
    whole_behind (λ bus. HasReported entry_record (λ (form : RecordForm). form.known.groups.now) subject) (MakesRecords c.args.wanted.groups.now (which_of c.args.wanted.filter)) (reported_makes entry_record subject (λ (form : RecordForm). form.known.groups.now))
    header_text c.args.bus _ _ _ _ (c.run_headed.ensures.kept_up read subject (filtered_of entry_record c.args.wanted.groups.now (which_of c.args.wanted.filter) 0 []) (λ name. c.new-report.ensures) refl)

pub returns-clause-asked : goal.returns-clause-asked
returns-clause-asked g c = if_ok c.run_headed.result _ _
    (λ counts writes. asked_behind header_text entry_record (which_of c.args.wanted.filter) c.args.wanted.groups.now c.args.bus _ counts _ _ writes) (returns-clause-ran g c).writes
