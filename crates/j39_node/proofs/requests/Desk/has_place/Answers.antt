use Rattle.j39_node.proofs.Common.{◌∙◌, sym}
use Rattle.j39_node.proofs.KnownLemmas.{has_room, with_room}
use Rattle.j39_node.proofs.requests.Desk.has_place.Goals as goal

pub returns-then-not-is_full-clause-value : goal.returns-then-not-is_full-clause-value
returns-then-not-is_full-clause-value c = λ own.
    with_room _ _ _ (has_room _ c.is_full.ensures.fits (sym c.if-not-is_full.true ∙ c.is_full.ensures.value)) (c.is_due.ensures own)
