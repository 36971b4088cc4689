use Rattle.std.proofs.Common.{◌∙◌, add-one, ap, slice_index_or}
use Rattle.std.specs.Box.{with_value}
use Rattle.j39_transfers.proofs.BoxLemmas.{met_at}
use Rattle.j39_application.proofs.kept.pass_all.Goals as goal

pub loop-waiting-preserved : goal.loop-waiting-preserved
loop-waiting-preserved g c =
    let i = c.loop-waiting.waiting-index in
    let w = g.T.Waits in
    let e = c.pass.ensures ∙ ap (λ o. w.later c.args.time (w.shown o)) c.deref_mut.ensures.value in
    rw (add-one i) (met_at (λ b. w.shown b.value) (w.later c.args.time) c.loop-waiting.current c.args.current.now i
    (with_value (slice_index_or c.loop-waiting.current i c.waiting-item.result) c.pass.new.self) c.waiting-item.result
    c.loop-waiting-test.true c.loop-waiting.invariant e)
