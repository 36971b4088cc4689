-- The account has met the frames of the log, so it knows what was broken in them.
use Rattle.j39_fault_reports.proofs.Common.{refl, which_of, nothing}
use Rattle.j39_listen.proofs.PieceLemmas.{on_ok_from}
use Rattle.j39_fault_reports.specs.CurrentSoFar.{HasKept, NowSubject}
use Rattle.j39_fault_reports.proofs.BrokenLemmas.{told_faults}
use Rattle.j39_fault_reports.specs.FaultsSoFar.{manner_of}
use Rattle.j39_fault_reports.proofs.current_faults.run.faults_now.Goals as goal

pub returns-in-Line-clause-told : goal.returns-in-Line-clause-told
returns-in-Line-clause-told g c =
    let subject : NowSubject = record { manner = manner_of c.args.wanted.writing; conversions = c.args.wanted.conversions.now; which = which_of c.args.wanted.filter } in
    let run = c.run_keeping-ran.ensures.ran (c.args.wanted.writing.form, subject) nothing (λ name. c.new-account.ensures) refl in
    rw c.in-Line.is (told_faults (λ bus. HasKept c.args.wanted.writing.form subject) c.args.bus c.run_keeping-ran.result.1 _ (λ bus. c.broken.ensures c.args.wanted.writing.form subject) _ _ c.args.limit c.counted.result c.run_keeping-ran.result.0 _ _ c.counted.ensures.counts
    (rw c.in-Line.is at run) c.counted.ensures.broken
    (on_ok_from c.run_keeping-ran.result.0 _ _ (λ met. met (c.args.wanted.writing.form, subject) _ (λ name. c.new-account.ensures) refl) c.run_keeping-ran.ensures.met))

pub returns-in-Record-clause-told : goal.returns-in-Record-clause-told
returns-in-Record-clause-told g c =
    let subject : NowSubject = record { manner = manner_of c.args.wanted.writing; conversions = c.args.wanted.conversions.now; which = which_of c.args.wanted.filter } in
    let run = c.run_headed_keeping-ran.ensures.ran (c.args.wanted.writing.form, subject) nothing (λ name. c.new-account.ensures) refl in
    rw c.in-Record.is (told_faults (λ bus. HasKept c.args.wanted.writing.form subject) c.args.bus c.run_headed_keeping-ran.result.1 _ (λ bus. c.broken-in-Record.ensures c.args.wanted.writing.form subject) _ _ c.args.limit c.counted-in-Record.result c.run_headed_keeping-ran.result.0 _ _ c.counted-in-Record.ensures.counts
    (rw c.in-Record.is at run) c.counted-in-Record.ensures.broken
    (on_ok_from c.run_headed_keeping-ran.result.0 _ _ (λ met. met (c.args.wanted.writing.form, subject) _ (λ name. c.new-account.ensures) refl) c.run_headed_keeping-ran.ensures.met))

pub returns-in-Object-clause-told : goal.returns-in-Object-clause-told
returns-in-Object-clause-told g c =
    let subject : NowSubject = record { manner = manner_of c.args.wanted.writing; conversions = c.args.wanted.conversions.now; which = which_of c.args.wanted.filter } in
    let run = c.run_keeping-ran-in-Object.ensures.ran (c.args.wanted.writing.form, subject) nothing (λ name. c.new-account.ensures) refl in
    rw c.in-Object.is (told_faults (λ bus. HasKept c.args.wanted.writing.form subject) c.args.bus c.run_keeping-ran-in-Object.result.1 _ (λ bus. c.broken-in-Object.ensures c.args.wanted.writing.form subject) _ _ c.args.limit c.counted-in-Object.result c.run_keeping-ran-in-Object.result.0 _ _ c.counted-in-Object.ensures.counts
    (rw c.in-Object.is at run) c.counted-in-Object.ensures.broken
    (on_ok_from c.run_keeping-ran-in-Object.result.0 _ _ (λ met. met (c.args.wanted.writing.form, subject) _ (λ name. c.new-account.ensures) refl) c.run_keeping-ran-in-Object.ensures.met))
