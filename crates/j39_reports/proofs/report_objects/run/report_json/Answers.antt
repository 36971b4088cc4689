use Rattle.j39_reports.proofs.Common.{[], refl, which_of, filtered_of, HasReported, Subject, if_ok, asked_of_log, whole_lines, reported_makes}
use Rattle.j39_reports.specs.EntryObject.{entry_object}
use Rattle.j39_reports.specs.ReportObjects.{MakesObjects}
use Rattle.j39_reports.specs.declared.report_objects.objects.ObjectForm.{ObjectForm}
use Rattle.j39_reports.proofs.report_objects.run.report_json.Goals as goal

pub returns-clause-ran : goal.returns-clause-ran
returns-clause-ran g c = c.run_over.ensures.ran (record { rows = c.args.wanted.groups.now; which = which_of c.args.wanted.filter })
    (filtered_of entry_object c.args.wanted.groups.now (which_of c.args.wanted.filter) 0 []) (λ name. c.new-report.ensures) refl

pub returns-clause-kept_up : goal.returns-clause-kept_up
returns-clause-kept_up g c = λ read.
    let subject : Subject = record { rows = c.args.wanted.groups.now; which = which_of c.args.wanted.filter } in
    whole_lines (λ bus. HasReported entry_object (λ (form : ObjectForm). form.known.groups.now) subject) (MakesObjects c.args.wanted.groups.now (which_of c.args.wanted.filter)) (reported_makes entry_object subject (λ (form : ObjectForm). form.known.groups.now))
    c.args.bus _ _ _ _ (c.run_over.ensures.kept_up read subject (filtered_of entry_object c.args.wanted.groups.now (which_of c.args.wanted.filter) 0 []) (λ name. c.new-report.ensures) refl)

pub returns-clause-asked : goal.returns-clause-asked
returns-clause-asked g c = if_ok c.run_over.result _ _
    (λ counts writes. asked_of_log entry_object (which_of c.args.wanted.filter) c.args.wanted.groups.now c.args.bus _ counts _ _ writes) (returns-clause-ran g c).writes
