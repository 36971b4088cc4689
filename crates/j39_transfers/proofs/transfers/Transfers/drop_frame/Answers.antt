use Rattle.j39_transfers.proofs.Common.{[], ◌++◌, ◌∙◌, ◌∷◌, append-nil, ap, in_box, is_first, List, listed, map, map-append, option_map, Option, others, sends_in, stamp_micros, sym, Transfer, transfer_in, TransfersRecord, transfers_of}
use Rattle.j39_transfers.specs.declared.running.Running.{Running}
use Rattle.j39_transfers.proofs.BoxLemmas.{none_placed, placed}
use Rattle.j39_transfers.proofs.transfers.Transfers.drop_frame.Goals as goal

pub returns-in-Some : goal.returns-in-Some
returns-in-Some c =
    let now = stamp_micros c.args.now in
    let items = c.args.self.now.current.items in
    let q = is_first now (map in_box items) in
    let b = c.remove-first.result in
    let p = placed in_box q b items c.in-Some.place (sym c.in-Some.is ∙ c.turn.ensures) in
    let e = c.sent.ensures
    ∙ (ap (λ (r : Running). sends_in now (transfer_in r)) c.deref_mut.ensures.value ∙ ap (λ b. sends_in now (in_box b)) c.remove-first.ensures.value) in
    let all = ap (map in_box) c.push_reserved.ensures.items ∙ map-append in_box c.remove-first.new.boxes.items _ in
    record {
      sent =
          ap (λ (xs : List Transfer). (let s : TransfersRecord = record (transfers_of c.args.self.now) { running = xs } in s))
          (all ∙ ((λ i. (ap (map in_box) c.remove-first.ensures.items ∙ p.1.1) i ++ e i ∷ [])
          ∙ sym (ap (λ (o : Option Transfer). others q (map in_box items) ++ listed (option_map (sends_in now) o)) p.1.0)));
    }

pub returns-in_default : goal.returns-in_default
returns-in_default c =
    let now = stamp_micros c.args.now in
    let items = c.args.self.now.current.items in
    let q = is_first now (map in_box items) in
    let n = none_placed in_box q items (sym c.in_default.is ∙ c.turn.ensures) in
    record {
      sent =
          ap (λ (xs : List Transfer). (let s : TransfersRecord = record (transfers_of c.args.self.now) { running = xs } in s))
          (sym ((λ i. n.1 i ++ listed (option_map (sends_in now) (n.0 i))) ∙ append-nil (map in_box items)));
    }
