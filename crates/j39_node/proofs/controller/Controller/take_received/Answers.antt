use Rattle.j39_node.proofs.Common.{◌∙◌, ap, drop, got, kept, length, received_by, refl, sender_by, senders, sym, View, ℕ}
use Rattle.j39_node.proofs.QueueLemmas.{first, not_empty, length_one_more}
use Rattle.j39_node.proofs.controller.Controller.take_received.Goals as goal
use Rattle.j39_node.proofs.CallLemmas.{follows}

pub returns-clause-sender : goal.returns-clause-sender
returns-clause-sender c = λ w H h.
    (first sender_by _ _ c.remove-first.result (length (got H)) (senders w H) (ap (λ (v : View). v.senders) h.shown)
    (not_empty _ _ c.is_empty.ensures c.if-is_empty.false) c.remove-first.ensures.value c.remove-first.ensures.items).is

pub returns-clause-is : goal.returns-clause-is
returns-clause-is c = λ w H h.
    let some = not_empty _ _ c.is_empty.ensures c.if-is_empty.false in
    let f = first received_by _ _ c.remove-first.result (length (got H)) (kept w H) (ap (λ (v : View). v.unread) h.shown)
    some c.remove-first.ensures.value c.remove-first.ensures.items in
    let s = first sender_by _ _ c.remove-first.result (length (got H)) (senders w H) (ap (λ (v : View). v.senders) h.shown)
    some c.remove-first.ensures.value c.remove-first.ensures.items in
    let more = sym (length_one_more (got H) (received_by c.remove-first.result)) in
    follows h refl (sym f.is) refl (λ i. record (h.shown i) {
      unread = (f.rest ∙ ap (λ (n : ℕ). drop n (kept w H)) more) i;
      senders = (s.rest ∙ ap (λ (n : ℕ). drop n (senders w H)) more) i;
    })
