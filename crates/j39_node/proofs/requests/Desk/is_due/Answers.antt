use Rattle.j39_node.proofs.Common.{◌∙◌, acknowledgment, bytes_eq, Message, nothing, refusal_by, request_by, sym, who_of}
use Rattle.j39_node.proofs.QueueLemmas.{any_found, any_more, any_none}
use Rattle.j39_node.proofs.requests.Desk.is_due.Goals as goal

pub returns-then-is_of : goal.returns-then-is_of
returns-then-is_of c = λ own.
    any_found (refusal_by (who_of nothing own)) (λ (m : Message). bytes_eq m.bytes (acknowledgment (who_of nothing own) c.args.answer (request_by c.args.request.now)).bytes)
    _ _ c.loop-other.other-index c.other-item.result c.as_slice-due.ensures.value c.loop-other-test.true c.other-item.is (sym (c.is_of.ensures own) ∙ c.if-is_of.true)

pub loop-other-preserved : goal.loop-other-preserved
loop-other-preserved c = λ own.
    any_more (refusal_by (who_of nothing own)) (λ (m : Message). bytes_eq m.bytes (acknowledgment (who_of nothing own) c.args.answer (request_by c.args.request.now)).bytes)
    _ c.loop-other.other-index c.other-item.result c.loop-other-test.true c.other-item.is (sym (c.is_of.ensures own) ∙ c.if-is_of.false) (c.loop-other.invariant own)

pub returns : goal.returns
returns c = λ own.
    any_none (refusal_by (who_of nothing own)) (λ (m : Message). bytes_eq m.bytes (acknowledgment (who_of nothing own) c.args.answer (request_by c.args.request.now)).bytes)
    _ _ c.loop-other.other-index c.as_slice-due.ensures.value c.loop-other-test.false (c.loop-other.invariant own)
