use Rattle.j39_node.proofs.Common.{◌∙◌, ap, asker_by, askers, handed, length, refl, request_by, requests, View, drop, sym, ℕ}
use Rattle.j39_node.proofs.QueueLemmas.{first, not_empty, length_one_more}
use Rattle.j39_node.proofs.controller.Controller.take_request.Goals as goal
use Rattle.j39_node.proofs.CallLemmas.{follows}

pub returns-clause-asker : goal.returns-clause-asker
returns-clause-asker c = λ w H h.
    (first asker_by _ _ c.remove-first.result (length (handed H)) (askers w H) (ap (λ (v : View). v.askers) h.shown)
    (not_empty _ _ c.is_empty.ensures c.if-is_empty.false) c.remove-first.ensures.value c.remove-first.ensures.items).is

pub returns-clause-is : goal.returns-clause-is
returns-clause-is c = λ w H h.
    let some = not_empty _ _ c.is_empty.ensures c.if-is_empty.false in
    let f = first request_by _ _ c.remove-first.result (length (handed H)) (requests w H) (ap (λ (v : View). v.requests) h.shown)
    some c.remove-first.ensures.value c.remove-first.ensures.items in
    let a = first asker_by _ _ c.remove-first.result (length (handed H)) (askers w H) (ap (λ (v : View). v.askers) h.shown)
    some c.remove-first.ensures.value c.remove-first.ensures.items in
    let more = sym (length_one_more (handed H) (request_by c.remove-first.result)) in
    follows h refl (sym f.is) refl (λ i. record (h.shown i) {
      requests = (f.rest ∙ ap (λ (n : ℕ). drop n (requests w H)) more) i;
      askers = (a.rest ∙ ap (λ (n : ℕ). drop n (askers w H)) more) i;
    })
