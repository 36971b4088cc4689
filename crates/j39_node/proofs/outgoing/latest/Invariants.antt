use Rattle.j39_node.proofs.Common.{◌≡◌, latest, map, None, posted, take}
use Rattle.j39_node.proofs.outgoing.latest.Given as goal

-- the last of those so far
abbrev pub invariant-loop-waits : goal.invariant-loop-waits
invariant-loop-waits l =
    (l.place ≡ l.waits-index) × (l.found ≡ latest (posted l.fn.message).1 l.fn.n 0 (map posted (take l.waits-index l.outgoing)) None)
