use Rattle.std.proofs.Common.{◌≡◌, true, false, sym, ◌∙◌}
use Rattle.j39_c.proofs.peers.tells_heard.Goals as goal

pub returns-else-heard_since-clause-tells_heard : goal.returns-else-heard_since-clause-tells_heard
returns-else-heard_since-clause-tells_heard c = λ F T k w H h s.
    let e : false ≡ true = sym c.if-heard_since.false ∙ (c.heard_since.ensures F T k w H h).1 s in absurd cc
