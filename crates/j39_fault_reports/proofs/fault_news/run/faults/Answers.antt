-- The account has met the frames of the log, so it knows what was broken in them.
use Rattle.std.proofs.Common.{[]}
use Rattle.j39_listen.proofs.PieceLemmas.{on_ok_from}
use Rattle.j39_fault_reports.specs.FaultRun.{faults_of}
use Rattle.j39_fault_reports.specs.FaultsSoFar.{HasTold, Subject, manner_of}
use Rattle.j39_fault_reports.specs.News.{chosen_of}
use Rattle.j39_fault_reports.proofs.BrokenLemmas.{told_faults}
use Rattle.j39_fault_reports.proofs.FaultAccountLemmas.{none_told}
use Rattle.j39_fault_reports.proofs.fault_news.run.faults.Goals as goal

pub returns-in-Line-clause-told : goal.returns-in-Line-clause-told
returns-in-Line-clause-told g c =
    let subject : Subject = record { manner = manner_of c.args.wanted.writing; which = chosen_of c.args.wanted.choice } in
    let none = none_told c.args.wanted.writing.form (manner_of c.args.wanted.writing) (chosen_of c.args.wanted.choice) in
    let run = c.run_keeping-ran.ensures.ran (c.args.wanted.writing.form, subject) (faults_of c.args.wanted.writing.form (manner_of c.args.wanted.writing) (chosen_of c.args.wanted.choice) 0 []) (λ name. c.new-account.ensures) none in
    rw c.in-Line.is (told_faults (λ bus. HasTold c.args.wanted.writing.form subject) c.args.bus c.run_keeping-ran.result.1 _ (λ bus. c.broken.ensures c.args.wanted.writing.form subject) _ _ c.args.limit c.counted.result c.run_keeping-ran.result.0 _ _ c.counted.ensures.counts
    (rw c.in-Line.is at run) c.counted.ensures.broken
    (on_ok_from c.run_keeping-ran.result.0 _ _ (λ met. met (c.args.wanted.writing.form, subject) _ (λ name. c.new-account.ensures) none) c.run_keeping-ran.ensures.met))

pub returns-in-Record-clause-told : goal.returns-in-Record-clause-told
returns-in-Record-clause-told g c =
    let subject : Subject = record { manner = manner_of c.args.wanted.writing; which = chosen_of c.args.wanted.choice } in
    let none = none_told c.args.wanted.writing.form (manner_of c.args.wanted.writing) (chosen_of c.args.wanted.choice) in
    let run = c.run_headed_keeping-ran.ensures.ran (c.args.wanted.writing.form, subject) (faults_of c.args.wanted.writing.form (manner_of c.args.wanted.writing) (chosen_of c.args.wanted.choice) 0 []) (λ name. c.new-account.ensures) none in
    rw (c.in-Record.is, ← c.columns_of-columns.ensures) (told_faults (λ bus. HasTold c.args.wanted.writing.form subject) c.args.bus c.run_headed_keeping-ran.result.1 _ (λ bus. c.broken-in-Record.ensures c.args.wanted.writing.form subject) _ _ c.args.limit c.counted-in-Record.result c.run_headed_keeping-ran.result.0 _ _ c.counted-in-Record.ensures.counts
    (rw c.in-Record.is at run) c.counted-in-Record.ensures.broken
    (on_ok_from c.run_headed_keeping-ran.result.0 _ _ (λ met. met (c.args.wanted.writing.form, subject) _ (λ name. c.new-account.ensures) none) c.run_headed_keeping-ran.ensures.met))

pub returns-in-Object-clause-told : goal.returns-in-Object-clause-told
returns-in-Object-clause-told g c =
    let subject : Subject = record { manner = manner_of c.args.wanted.writing; which = chosen_of c.args.wanted.choice } in
    let none = none_told c.args.wanted.writing.form (manner_of c.args.wanted.writing) (chosen_of c.args.wanted.choice) in
    let run = c.run_keeping-ran-in-Object.ensures.ran (c.args.wanted.writing.form, subject) (faults_of c.args.wanted.writing.form (manner_of c.args.wanted.writing) (chosen_of c.args.wanted.choice) 0 []) (λ name. c.new-account.ensures) none in
    rw c.in-Object.is (told_faults (λ bus. HasTold c.args.wanted.writing.form subject) c.args.bus c.run_keeping-ran-in-Object.result.1 _ (λ bus. c.broken-in-Object.ensures c.args.wanted.writing.form subject) _ _ c.args.limit c.counted-in-Object.result c.run_keeping-ran-in-Object.result.0 _ _ c.counted-in-Object.ensures.counts
    (rw c.in-Object.is at run) c.counted-in-Object.ensures.broken
    (on_ok_from c.run_keeping-ran-in-Object.result.0 _ _ (λ met. met (c.args.wanted.writing.form, subject) _ (λ name. c.new-account.ensures) none) c.run_keeping-ran-in-Object.ensures.met))
