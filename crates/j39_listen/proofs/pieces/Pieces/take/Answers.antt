use Rattle.std.proofs.Common.{◌∙◌, ap}
use Rattle.std.specs.Prelude.{Err}
use Rattle.j39_listen.proofs.PieceLemmas.{same_fault, stops_then_keeps, takes_then_keeps}
use Rattle.j39_listen.proofs.pieces.Pieces.take.Goals as goal

pub returns-in-Err-flush-clause-front : goal.returns-in-Err-flush-clause-front
returns-in-Err-flush-clause-front g c = λ subject.
    takes_then_keeps (g.A.Account.has_met subject) (g.A.Account.makes subject) (c.laws.ensures.begins subject) c.args.self.now c.take_lines.new.self c.args.piece.now _ _ _ (c.in-Ok.ensures.taken subject) c.in-Err-flush.ensures.bytes

-- ---- a fault in a line

pub returns-in-Err-clause-front : goal.returns-in-Err-clause-front
returns-in-Err-clause-front g c = λ subject.
    stops_then_keeps (g.A.Account.has_met subject) (g.A.Account.makes subject) c.args.self.now c.args.piece.now _ _ _ (c.in-Err.ensures.front subject) c.stop.ensures.bytes

pub returns-in-Err-clause-write : goal.returns-in-Err-clause-write
returns-in-Err-clause-write g c = λ fails. c.stop.ensures.mark (same_fault _ _ fails) (λ e. c.in-Err.ensures.write (ap Err e))

pub returns-in-Err-clause-unmarked : goal.returns-in-Err-clause-unmarked
returns-in-Err-clause-unmarked g c = λ other.
    c.stop.ensures.unmarked (λ e. other (ap Err e)) ∙ c.in-Err.ensures.unmarked (λ e. other (ap Err (c.stop.ensures.write (same_fault _ _ e))))

pub returns-in-Err-clause-passed_on : goal.returns-in-Err-clause-passed_on
returns-in-Err-clause-passed_on g c = λ fails. c.stop.ensures.passed_on (same_fault _ _ fails)

pub returns-in-Err-clause-asked : goal.returns-in-Err-clause-asked
returns-in-Err-clause-asked g c = λ fails subject. c.in-Err.ensures.asked (ap Err (c.stop.ensures.memory (same_fault _ _ fails))) subject
