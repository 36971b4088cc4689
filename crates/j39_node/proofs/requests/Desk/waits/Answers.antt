use Rattle.j39_node.proofs.Common.{◌∙◌, repeats, request_by, sym}
use Rattle.j39_node.proofs.QueueLemmas.{any_found, any_none}
use Rattle.j39_node.proofs.requests.Desk.waits.Goals as goal

pub returns-then-is_same : goal.returns-then-is_same
returns-then-is_same c =
    any_found request_by (repeats (request_by c.args.request.now)) _ _ c.loop-other.other-index c.other-item.result c.as_slice-waiting.ensures.value c.loop-other-test.true c.other-item.is
    (sym c.is_same.ensures ∙ c.if-is_same.true)

pub returns : goal.returns
returns c =
    any_none request_by (repeats (request_by c.args.request.now)) _ _ c.loop-other.other-index c.as_slice-waiting.ensures.value c.loop-other-test.false c.loop-other.invariant
