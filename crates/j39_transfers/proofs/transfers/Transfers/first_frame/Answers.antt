use Rattle.j39_transfers.proofs.Common.{◌∙◌, ap, frame_of, in_box, is_first, map, option_map, stamp_micros, sym, to_send, transfer_in}
use Rattle.j39_transfers.specs.Transfers.{frame_by}
use Rattle.j39_transfers.specs.declared.running.Running.{Running}
use Rattle.j39_transfers.proofs.BoxLemmas.{none_placed, placed}
use Rattle.j39_transfers.proofs.transfers.Transfers.first_frame.Goals as goal

pub returns-in_err-place : goal.returns-in_err-place
returns-in_err-place c =
    let now = stamp_micros c.args.now in
    let items = c.args.self.now.current.items in
    ap (option_map to_send) c.from_residual.ensures ∙ ap (frame_by now) (sym (none_placed in_box (is_first now (map in_box items)) items c.in_err-place.ensures).0)

pub returns : goal.returns
returns c =
    let now = stamp_micros c.args.now in
    let items = c.args.self.now.current.items in
    let x = c.index.result.now in
    let p = placed in_box (is_first now (map in_box items)) x items c.in_ok-place.place c.in_ok-place.ensures in
    c.frame.ensures.value
    ∙ (ap (λ (r : Running). frame_of now (transfer_in r)) c.deref.ensures
    ∙ (ap (λ b. frame_of now (in_box b)) c.index.ensures ∙ sym (ap (frame_by now) p.1.0)))
