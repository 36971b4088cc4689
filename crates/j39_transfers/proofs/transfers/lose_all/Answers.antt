use Rattle.j39_transfers.proofs.Common.{◌∙◌, add-one, ap, breaks, stamp_micros, in_box, transfer_in}
use Rattle.j39_transfers.specs.declared.kinds.Ending.TheVariants as how
use Rattle.j39_transfers.specs.declared.running.Running.{Running}
use Rattle.j39_transfers.proofs.BoxLemmas.{met_at}
use Rattle.j39_transfers.proofs.transfers.lose_all.Goals as goal

pub loop-running-preserved : goal.loop-running-preserved
loop-running-preserved c =
    let i = c.loop-running.running-index in
    let e = c.break_off.ensures ∙ ap (λ (r : Running). breaks how.Withdrawn (stamp_micros c.args.now) (transfer_in r)) c.deref_mut.ensures.value in
    rw (add-one i) (met_at in_box (breaks how.Withdrawn (stamp_micros c.args.now)) c.loop-running.current c.args.current.now i _ c.running-item.result
    c.loop-running-test.true c.loop-running.invariant e)
