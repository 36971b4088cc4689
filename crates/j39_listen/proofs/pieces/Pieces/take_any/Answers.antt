-- A line of any form, as it was cut.
use Rattle.std.proofs.Common.{ap}
use Rattle.std.specs.Prelude.{Err}
use Rattle.j39_listen.proofs.AskLemmas.{asks_line}
use Rattle.j39_listen.proofs.PieceLemmas.{same_fault, steps_line, stops_line}
use Rattle.j39_listen.proofs.pieces.Pieces.take_any.Goals as goal

pub returns-in-Ok-clause-steps : goal.returns-in-Ok-clause-steps
returns-in-Ok-clause-steps g c = λ subject begun h.
    steps_line (g.A.Account.has_met subject) begun c.args.bytes.now _ _ c.in-Some.raw c.args.self.now.lines _ _ _ (rw c.in-Some.is at (c.feed.follows.holds-at-none begun h)) (rw c.in-Some.is at (c.feed.ensures.line begun h))
    (c.in-Ok.ensures.read subject)

pub returns-in-Err-clause-stops : goal.returns-in-Err-clause-stops
returns-in-Err-clause-stops g c = λ fails subject begun h.
    stops_line (g.A.Account.has_met subject) (g.A.Account.makes subject) begun c.args.bytes.now _ c.in-Some.raw c.args.self.now.lines _ _ (rw c.in-Some.is at (c.feed.ensures.line begun h))
    (c.in-Err.ensures.stops (ap Err (same_fault _ _ fails)) subject)

pub returns-in-Err-clause-asked : goal.returns-in-Err-clause-asked
returns-in-Err-clause-asked g c = λ fails subject begun h.
    asks_line (g.A.Account.has_met subject) (g.A.Account.asks subject) begun c.args.bytes.now _ c.in-Some.raw c.args.self.now.lines (rw c.in-Some.is at (c.feed.ensures.line begun h))
    (c.in-Err.ensures.asked (ap Err (same_fault _ _ fails)) subject)
