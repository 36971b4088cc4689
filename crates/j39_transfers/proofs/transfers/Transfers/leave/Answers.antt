use Rattle.std.proofs.lemmas.List.{places, with_items_is}
use Rattle.j39_transfers.proofs.Common.{◌∙◌, ap, holder_in, leaves_in, in_box, List, map, rules, stamp_micros, Transfer, TransfersRecord, transfers_of}
use Rattle.j39_transfers.proofs.transfers.Transfers.leave.Goals as goal

pub returns : goal.returns
returns c =
    ap (λ (xs : List Transfer). (let s : TransfersRecord = record (transfers_of c.args.self.now) { running = xs } in s))
    (ap (map in_box) (with_items_is c.args.self.now.current c.leave_all.new.current (search (rules, places)))
    ∙ (c.leave_all.ensures ∙ ap (λ ys. map (leaves_in c.args.gone (holder_in c.args.holders.now) (stamp_micros c.args.now)) (map in_box ys)) c.as_mut_slice.ensures.value))
