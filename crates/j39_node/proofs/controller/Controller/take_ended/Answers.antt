use Rattle.j39_node.proofs.Common.{◌∙◌, accepted, ap, arith, length, posted, refl, sym, told, View}
use Rattle.j39_node.proofs.QueueLemmas.{first, not_empty}
use Rattle.j39_node.proofs.CallLemmas.{told_done, told_withdrawn}
use Rattle.j39_node.proofs.controller.Controller.take_ended.Goals as goal

pub returns-then-self-gt0 : goal.returns-then-self-gt0
returns-then-self-gt0 c = λ w H h.
    let f = first posted _ _ c.remove-first.result (length (told H)) (accepted w H) (ap (λ (v : View). v.outgoing) h.shown)
    (not_empty _ _ c.is_empty.ensures c.if-is_empty.false) c.remove-first.ensures.value c.remove-first.ensures.items in
    told_done w H c.args.self.now _ c.remove-first.result _ c.ending.ensures h f (omega (arith, c.if-self-gt0.true)) (omega arith) refl

pub returns-then-is_lost : goal.returns-then-is_lost
returns-then-is_lost c = λ w H h.
    let f = first posted _ _ c.remove-first-then-is_lost.result (length (told H)) (accepted w H) (ap (λ (v : View). v.outgoing) h.shown)
    (not_empty _ _ c.is_empty.ensures c.if-is_empty.false) c.remove-first-then-is_lost.ensures.value c.remove-first-then-is_lost.ensures.items in
    told_withdrawn w H c.args.self.now _ c.remove-first-then-is_lost.result h f (omega (arith, c.if-self-gt0.false)) (sym c.is_lost.ensures ∙ c.if-is_lost.true) refl refl
