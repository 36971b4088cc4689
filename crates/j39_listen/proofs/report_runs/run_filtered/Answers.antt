use Rattle.std.proofs.Common.{[], refl, subst}
use Rattle.j39_io.specs.Turn.{turn}
use Rattle.j39_listen.specs.Asking.{AsksForBoxes}
use Rattle.j39_listen.specs.Chooses.{which_of}
use Rattle.j39_listen.specs.Filter.{MakesFiltered, filtered_of}
use Rattle.j39_listen.specs.Output.{Making}
use Rattle.j39_listen.specs.Ran.{Ran}
use Rattle.j39_listen.specs.Report.{entry_text}
use Rattle.j39_listen.specs.ReportSoFar.{HasReported, Subject}
use Rattle.j39_listen.specs.declared.report_lines.Pen.{Pen}
use Rattle.j39_listen.proofs.FilterLemmas.{unfiltered}
use Rattle.j39_listen.proofs.KeepingUp.{whole_lines}
use Rattle.j39_listen.proofs.PieceLemmas.{if_ok}
use Rattle.j39_listen.proofs.ReportAccount.{reported_makes}
use Rattle.j39_listen.proofs.Written.{asked_of_log, tells_published}
use Rattle.j39_listen.proofs.report_runs.run_filtered.Goals as goal

pub returns-clause-ran : goal.returns-clause-ran
returns-clause-ran g c = c.run_over.ensures.ran (record { rows = c.args.wanted.groups.now; which = which_of c.args.wanted.filter })
    (filtered_of (λ groups. entry_text) c.args.wanted.groups.now (which_of c.args.wanted.filter) 0 []) (λ name. c.new-report.ensures) refl

pub returns-clause-published : goal.returns-clause-published
returns-clause-published g c none =
    let groups = c.args.wanted.groups.now in
    let run : Making → Type 0 = λ making. Ran making AsksForBoxes c.args.bus c.args.limit c.run_over.result
    (turn g.R.Source.remaining g.R.Source.has_failed c.args.source.now c.run_over.new.source)
    (turn g.W.Sink.written g.W.Sink.has_failed c.args.sink.now c.run_over.new.sink) in
    let asked = subst (λ which. run (MakesFiltered groups which)) none (returns-clause-ran g c) in
    let whole = subst run (unfiltered (λ rows. entry_text) groups) asked in
    if_ok c.run_over.result _ _ (λ counts writes. tells_published groups c.args.bus _ counts _ _ writes) whole.writes

pub returns-clause-asked : goal.returns-clause-asked
returns-clause-asked g c = if_ok c.run_over.result _ _
    (λ counts writes. asked_of_log (λ rows. entry_text) (which_of c.args.wanted.filter) c.args.wanted.groups.now c.args.bus _ counts _ _ writes) (returns-clause-ran g c).writes

pub returns-clause-kept_up : goal.returns-clause-kept_up
returns-clause-kept_up g c = λ read.
    let subject : Subject = record { rows = c.args.wanted.groups.now; which = which_of c.args.wanted.filter } in
    whole_lines (λ bus. HasReported (λ groups. entry_text) (λ (pen : Pen). pen.groups.now) subject) (MakesFiltered c.args.wanted.groups.now (which_of c.args.wanted.filter)) (reported_makes (λ groups. entry_text) subject (λ (pen : Pen). pen.groups.now))
    c.args.bus _ _ _ _
    (c.run_over.ensures.kept_up read subject (filtered_of (λ groups. entry_text) c.args.wanted.groups.now (which_of c.args.wanted.filter) 0 []) (λ name. c.new-report.ensures) refl)
