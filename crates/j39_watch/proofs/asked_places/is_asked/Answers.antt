-- The chooser says so of what stands there.
use Rattle.j39_watch.proofs.Common.{first_stamp}
use Rattle.j39_watch.proofs.AskedLemmas.{answered}
use Rattle.j39_watch.proofs.asked_places.is_asked.Goals as goal

pub returns-in-Some : goal.returns-in-Some
returns-in-Some c = λ which F chosen.
    answered which (first_stamp F) c.args.address c.raw-pgn.result _ c.in-Some.last.now _ c.asks_for.result (rw c.in-Some.is at c.get.ensures)
    c.last.view_is c.raw-pgn.ensures.value (c.asks_for.ensures which F chosen)
