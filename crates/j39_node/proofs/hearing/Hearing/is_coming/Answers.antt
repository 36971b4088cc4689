use Rattle.j39_node.proofs.Common.{◌<◌, ◌∙◌, ◌≤◌, ap, comes_by, get_or, length, question, refl, stamp_micros, subst, sym}
use Rattle.j39_node.specs.Boxes.{broadcast_by, in_box}
use Rattle.j39_node.specs.declared.hearing.Assembly.{Assembly}
use Rattle.j39_node.proofs.QueueLemmas.{any_found, any_more, any_none}
use Rattle.j39_node.proofs.hearing.Hearing.is_coming.Goals as goal

pub returns-then-answers : goal.returns-then-answers
returns-then-answers c = λ token.
    any_found in_box (comes_by (stamp_micros c.args.time) (question token c.args.group c.args.to)) _ _ c.loop-heard.heard-index c.heard-item.result c.deref-heard-items.ensures.value c.loop-heard-test.true c.heard-item.is
    (ap (λ (h : Assembly). comes_by (stamp_micros c.args.time) (question token c.args.group c.args.to) (broadcast_by h)) (sym c.deref.ensures) ∙ (sym (c.answers.ensures token) ∙ c.if-answers.true))

pub loop-heard-preserved : goal.loop-heard-preserved
loop-heard-preserved c = λ token.
    any_more in_box (comes_by (stamp_micros c.args.time) (question token c.args.group c.args.to)) _ c.loop-heard.heard-index c.heard-item.result (subst (λ ys. c.loop-heard.heard-index < length ys) c.deref-heard-items.ensures.value c.loop-heard-test.true)
    (c.heard-item.is ∙ ap (λ ys. get_or ys c.loop-heard.heard-index c.heard-item.result) c.deref-heard-items.ensures.value)
    (ap (λ (h : Assembly). comes_by (stamp_micros c.args.time) (question token c.args.group c.args.to) (broadcast_by h)) (sym c.deref.ensures) ∙ (sym (c.answers.ensures token) ∙ c.if-answers.false)) (c.loop-heard.invariant token)

pub returns : goal.returns
returns c = λ token.
    any_none in_box (comes_by (stamp_micros c.args.time) (question token c.args.group c.args.to)) c.args.self.now.current.items _ c.loop-heard.heard-index refl (subst (λ ys. length ys ≤ c.loop-heard.heard-index) c.deref-heard-items.ensures.value c.loop-heard-test.false) (c.loop-heard.invariant token)
