use Rattle.j39_node.proofs.Common.{◌≡◌, acknowledgment, bytes_eq, false, list_any, nothing, Own, refusal_by, request_by, take, who_of}
use Rattle.j39_node.proofs.requests.Desk.is_due.Given as goal

-- none of those so far is this one
abbrev pub invariant-loop-other : goal.invariant-loop-other
invariant-loop-other l = (own : Own) → list_any
    (λ x. bytes_eq (refusal_by (who_of nothing own) x).bytes (acknowledgment (who_of nothing own) l.answer (request_by l.request)).bytes)
    (take l.other-index l.due) ≡ false
