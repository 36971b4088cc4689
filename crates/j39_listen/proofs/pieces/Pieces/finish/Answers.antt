use Rattle.std.proofs.Common.{◌∙◌, ap}
use Rattle.std.specs.Prelude.{Err}
use Rattle.j39_listen.proofs.AskLemmas.{asks_at_end}
use Rattle.j39_listen.proofs.PieceLemmas.{FrontAtEnd, by_fault, end_fails, end_meets, end_none, end_stops, end_then_keeps, end_writes, same_fault}
use Rattle.j39_listen.proofs.pieces.Pieces.finish.Goals as goal

pub returns-in-Err-clause-front : goal.returns-in-Err-clause-front
returns-in-Err-clause-front g c = λ subject.
    let old = g.W.Sink.written c.args.sink.now in
    let mid = g.W.Sink.written c.take_last.new.sink in
    end_then_keeps (g.A.Account.has_met subject) (g.A.Account.makes subject) c.args.self.now old mid _
    (by_fault c.in-Err.fault (FrontAtEnd (g.A.Account.has_met subject) (g.A.Account.makes subject) c.args.self.now old mid)
    (λ e. end_stops (g.A.Account.has_met subject) (g.A.Account.makes subject) c.args.self.now old mid (c.in-Err.ensures.stops (ap Err e) subject))
    (λ e. end_none (g.A.Account.has_met subject) (g.A.Account.makes subject) (c.laws.ensures.begins subject) c.args.self.now old mid (c.in-Err.ensures.writer.memory (ap Err e))))
    c.stop.ensures.bytes

pub returns-in-Err-clause-write : goal.returns-in-Err-clause-write
returns-in-Err-clause-write g c = λ fails. c.stop.ensures.mark (same_fault _ _ fails) (λ e. c.in-Err.ensures.writer.write (ap Err e))

pub returns-in-Err-clause-unmarked : goal.returns-in-Err-clause-unmarked
returns-in-Err-clause-unmarked g c = λ other.
    c.stop.ensures.unmarked (λ e. other (ap Err e)) ∙ c.in-Err.ensures.writer.unmarked (λ e. other (ap Err (c.stop.ensures.write (same_fault _ _ e))))

pub returns-in-Err-clause-passed_on : goal.returns-in-Err-clause-passed_on
returns-in-Err-clause-passed_on g c = λ fails. c.stop.ensures.passed_on (same_fault _ _ fails)

pub returns-in-Ok-close-clause-report : goal.returns-in-Ok-close-clause-report
returns-in-Ok-close-clause-report g c = λ subject.
    end_writes (g.A.Account.has_met subject) (g.A.Account.makes subject) c.args.self.now c.take_last.new.self.lines _ _ _ _ (c.in-Ok.ensures.reads subject) (c.in-Ok-close.ensures.closes subject)

pub returns-in-Err-close-clause-front : goal.returns-in-Err-close-clause-front
returns-in-Err-close-clause-front g c = λ subject.
    end_fails (g.A.Account.has_met subject) (g.A.Account.makes subject) c.args.self.now c.take_last.new.self.lines _ _ _ (c.in-Ok.ensures.reads subject) (c.in-Err-close.ensures.stops subject)

pub returns-in-Err-clause-asked : goal.returns-in-Err-clause-asked
returns-in-Err-clause-asked g c = λ fails subject.
    asks_at_end (g.A.Account.has_met subject) (g.A.Account.asks subject) c.args.self.now (g.W.Sink.written c.args.sink.now) (c.in-Err.ensures.asked (ap Err (c.stop.ensures.memory (same_fault _ _ fails))) subject)

pub returns-in-Ok-close-clause-met : goal.returns-in-Ok-close-clause-met
returns-in-Ok-close-clause-met g c = λ subject.
    end_meets (g.A.Account.has_met subject) c.args.self.now c.take_last.new.self.lines _ _ (c.in-Ok.ensures.reads subject)
