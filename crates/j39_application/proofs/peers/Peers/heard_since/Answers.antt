use Rattle.std.proofs.Common.{sym, ◌∙◌}
use Rattle.j39_address.specs.Claim.{claims_of}
use Rattle.j39_node.specs.History.{told_claims}
use Rattle.j39_application.proofs.PeerLemmas.{heard_since, held_below, silent}
use Rattle.j39_application.proofs.peers.Peers.heard_since.Goals as goal

pub returns-in-Some-heard : goal.returns-in-Some-heard
returns-in-Some-heard c = λ F T k w H h.
    let holds = c.in-Some.ensures.found w H h in
    heard_since (claims_of (told_claims w H)) F _ _ _ _ _ c.micros.ensures.value holds
    (sym (k.heard _ (held_below (claims_of (told_claims w H)) _ _ holds)) ∙ sym c.in-Some-heard.ensures)

pub returns-in-None-heard : goal.returns-in-None-heard
returns-in-None-heard c = λ F T k w H h.
    let holds = c.in-Some.ensures.found w H h in
    silent (claims_of (told_claims w H)) F _ _ _ holds
    (sym (k.heard _ (held_below (claims_of (told_claims w H)) _ _ holds)) ∙ sym c.in-None-heard.ensures)
