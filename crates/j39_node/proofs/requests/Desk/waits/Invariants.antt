use Rattle.j39_node.proofs.Common.{◌≡◌, false, list_any, repeats, request_by, take}
use Rattle.j39_node.proofs.requests.Desk.waits.Given as goal

-- none of those so far is such a one
abbrev pub invariant-loop-other : goal.invariant-loop-other
invariant-loop-other l = list_any (λ x. repeats (request_by l.request) (request_by x)) (take l.other-index l.waiting) ≡ false
