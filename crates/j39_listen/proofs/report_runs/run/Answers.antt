use Rattle.std.proofs.Common.{subst}
use Rattle.j39_io.specs.Turn.{turn}
use Rattle.j39_listen.specs.Asking.{AsksForBoxes}
use Rattle.j39_listen.specs.Output.{MakesReport}
use Rattle.j39_listen.specs.Ran.{Ran}
use Rattle.j39_listen.specs.Run.{WritesWholeLines}
use Rattle.j39_listen.proofs.report_runs.run.Goals as goal

-- the table that is built in is that of the definition
pub returns-clause-ran : goal.returns-clause-ran
returns-clause-ran g c = subst
    (λ groups. Ran (MakesReport groups) AsksForBoxes c.args.bus c.args.limit c.run_with-ran.result
    (turn g.R.Source.remaining g.R.Source.has_failed c.args.source.now c.run_with-ran.new.source)
    (turn g.W.Sink.written g.W.Sink.has_failed c.args.sink.now c.run_with-ran.new.sink))
    c.built_in-groups.ensures c.run_with-ran.ensures.ran

pub returns-clause-kept_up : goal.returns-clause-kept_up
returns-clause-kept_up g c = λ read. subst
    (λ groups. WritesWholeLines (MakesReport groups) c.args.bus (g.R.Source.remaining c.args.source.now) (g.R.Source.remaining c.run_with-ran.new.source)
    (g.W.Sink.written c.args.sink.now) (g.W.Sink.written c.run_with-ran.new.sink))
    c.built_in-groups.ensures (c.run_with-ran.ensures.kept_up read)
