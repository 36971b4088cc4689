use Rattle.j39_reports.proofs.Common.{[], refl, which_of, filtered_of, HasReported, Subject, if_ok, asked_of_log, whole_lines, reported_makes}
use Rattle.j39_reports.specs.EntryInUtc.{MakesInUtc, entry_in_utc}
use Rattle.j39_reports.specs.declared.lines_in_utc.UtcPen.{UtcPen}
use Rattle.j39_reports.proofs.lines_in_utc.report_in_utc.Goals as goal

pub returns-clause-ran : goal.returns-clause-ran
returns-clause-ran g c = c.run_over.ensures.ran (record { rows = c.args.wanted.groups.now; which = which_of c.args.wanted.filter })
    (filtered_of (λ groups. entry_in_utc) c.args.wanted.groups.now (which_of c.args.wanted.filter) 0 []) (λ name. c.new-report.ensures) refl

pub returns-clause-kept_up : goal.returns-clause-kept_up
returns-clause-kept_up g c = λ read.
    let subject : Subject = record { rows = c.args.wanted.groups.now; which = which_of c.args.wanted.filter } in
    whole_lines (λ bus. HasReported (λ groups. entry_in_utc) (λ (pen : UtcPen). pen.groups.now) subject) (MakesInUtc c.args.wanted.groups.now (which_of c.args.wanted.filter)) (reported_makes (λ groups. entry_in_utc) subject (λ (pen : UtcPen). pen.groups.now))
    c.args.bus _ _ _ _ (c.run_over.ensures.kept_up read subject (filtered_of (λ groups. entry_in_utc) c.args.wanted.groups.now (which_of c.args.wanted.filter) 0 []) (λ name. c.new-report.ensures) refl)

pub returns-clause-asked : goal.returns-clause-asked
returns-clause-asked g c = if_ok c.run_over.result _ _
    (λ counts writes. asked_of_log (λ rows. entry_in_utc) (which_of c.args.wanted.filter) c.args.wanted.groups.now c.args.bus _ counts _ _ writes) (returns-clause-ran g c).writes
