-- One line after the other.
use Rattle.std.proofs.Common.{◌∙◌, ◌++◌, [], sym, ap, subst, refl, take, drop, append-nil, arith, take-append-drop}
use Rattle.std.proofs.lemmas.Grind.{common_steps}
use Rattle.std.specs.Prelude.{Err}
use Rattle.j39_listen.specs.PiecesSoFar.{HasTaken}
use Rattle.j39_listen.proofs.AskLemmas.{takes_then_asks}
use Rattle.j39_listen.proofs.PassLemmas.{left_behind, takes_then_passes, with_lines}
use Rattle.j39_listen.proofs.PieceLemmas.{StopsBytes, by_fault, no_fault, same_fault, takes_then_none, takes_then_stops, takes_then_takes}
use Rattle.j39_listen.proofs.pieces.Pieces.take_lines.Goals as goal

pub loop-rest-init : goal.loop-rest-init
loop-rest-init g c =
    ([], refl, (λ subject given taken held h. subst (λ t. HasTaken (g.A.Account.has_met subject) given t c.args.self.now held (g.W.Sink.written c.args.sink.now)) (sym (append-nil taken)) h), refl)

pub returns-in-Err-clause-front : goal.returns-in-Err-clause-front
returns-in-Err-clause-front g c = λ subject.
    let inv = c.loop-rest.invariant in
    let p = c.lines_passed-lines.ensures.passed in
    let passed = takes_then_passes g.A.Account.has_met c.args.self.now c.loop-rest.self c.pass_over.new.self inv.0 c.loop-rest.rest.now _ _ _ _ inv.2 c.pass_over.ensures p in
    let run = with_lines c.loop-rest.self c.pass_over.new.self in
    let start = g.W.Sink.written c.args.sink.now in
    let old = g.W.Sink.written c.loop-rest.sink in
    let new = g.W.Sink.written c.take_line.new.sink in
    let is = left_behind c.args.piece.now inv.0 c.loop-rest.rest.now p.done _ inv.1 p.bytes_are in
    by_fault c.in-Err.fault (StopsBytes (g.A.Account.has_met subject) (g.A.Account.makes subject) c.args.self.now c.args.piece.now start new)
    (λ e. takes_then_stops (g.A.Account.has_met subject) (g.A.Account.makes subject) c.args.self.now run (inv.0 ++ p.done) _ c.args.piece.now start old new is (passed subject) (c.in-Err.ensures.stops (ap Err e) subject))
    (λ e. takes_then_none (g.A.Account.has_met subject) (g.A.Account.makes subject) (c.laws.ensures.begins subject) c.args.self.now run (inv.0 ++ p.done) _ c.args.piece.now start old new is (passed subject) (c.in-Err.ensures.writer.memory (ap Err e)))

pub loop-rest-preserved : goal.loop-rest-preserved
loop-rest-preserved g c =
    let inv = c.loop-rest.invariant in
    let p = c.lines_passed-lines.ensures.passed in
    let passed = takes_then_passes g.A.Account.has_met c.args.self.now c.loop-rest.self c.pass_over.new.self inv.0 c.loop-rest.rest.now _ _ _ _ inv.2 c.pass_over.ensures p in
    let run = with_lines c.loop-rest.self c.pass_over.new.self in
    let n = c.in-Ok.n in
    let behind = c.lines_passed-lines.result.1.now in
    let done = inv.0 ++ p.done in
    let cut = sym (take-append-drop n behind) ∙ ap (λ xs. take n behind ++ xs) (sym c.split_at.ensures.back) in (
      done ++ take n behind,
      left_behind c.args.piece.now done behind (take n behind) _ (left_behind c.args.piece.now inv.0 c.loop-rest.rest.now p.done behind inv.1 p.bytes_are) cut,
      (λ subject. takes_then_takes (g.A.Account.has_met subject) c.args.self.now run c.take_line.new.self done behind n _ _ _ (passed subject) (c.in-Ok.ensures.steps subject)),
      c.in-Ok.ensures.writer.unmarked no_fault ∙ inv.3,
    )

pub returns-in-Err-clause-asked : goal.returns-in-Err-clause-asked
returns-in-Err-clause-asked g c = λ fails subject.
    let inv = c.loop-rest.invariant in
    let p = c.lines_passed-lines.ensures.passed in
    let passed = takes_then_passes g.A.Account.has_met c.args.self.now c.loop-rest.self c.pass_over.new.self inv.0 c.loop-rest.rest.now _ _ _ _ inv.2 c.pass_over.ensures p in
    let run = with_lines c.loop-rest.self c.pass_over.new.self in
    takes_then_asks (g.A.Account.has_met subject) (g.A.Account.asks subject) c.args.self.now run (inv.0 ++ p.done) _ c.args.piece.now (g.W.Sink.written c.args.sink.now) (g.W.Sink.written c.loop-rest.sink)
    (left_behind c.args.piece.now inv.0 c.loop-rest.rest.now p.done _ inv.1 p.bytes_are) (passed subject)
    (c.in-Err.ensures.asked (ap Err (same_fault _ _ fails)) subject)

pub returns-clause-taken : goal.returns-clause-taken
returns-clause-taken g c = grind (arith, common_steps)
