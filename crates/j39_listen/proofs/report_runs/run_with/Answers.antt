-- The report by no filter is the whole one.
use Rattle.std.proofs.Common.{refl, subst}
use Rattle.j39_io.specs.Turn.{turn}
use Rattle.j39_listen.specs.Asking.{AsksForBoxes}
use Rattle.j39_listen.specs.Output.{Making}
use Rattle.j39_listen.specs.Ran.{Ran}
use Rattle.j39_listen.specs.Report.{entry_text}
use Rattle.j39_listen.specs.Run.{WritesWholeLines}
use Rattle.j39_listen.proofs.FilterLemmas.{unfiltered}
use Rattle.j39_listen.proofs.report_runs.run_with.Goals as goal

pub returns-clause-ran : goal.returns-clause-ran
returns-clause-ran g c = subst
    (λ (making : Making). Ran making AsksForBoxes c.args.bus c.args.limit c.run_filtered.result
    (turn g.R.Source.remaining g.R.Source.has_failed c.args.source.now c.run_filtered.new.source)
    (turn g.W.Sink.written g.W.Sink.has_failed c.args.sink.now c.run_filtered.new.sink))
    (unfiltered (λ rows. entry_text) c.args.groups.now) c.run_filtered.ensures.ran

pub returns-clause-published : goal.returns-clause-published
returns-clause-published g c = c.run_filtered.ensures.published refl

pub returns-clause-kept_up : goal.returns-clause-kept_up
returns-clause-kept_up g c = λ read. subst
    (λ (making : Making). WritesWholeLines making c.args.bus (g.R.Source.remaining c.args.source.now) (g.R.Source.remaining c.run_filtered.new.source)
    (g.W.Sink.written c.args.sink.now) (g.W.Sink.written c.run_filtered.new.sink))
    (unfiltered (λ rows. entry_text) c.args.groups.now) (c.run_filtered.ensures.kept_up read)
