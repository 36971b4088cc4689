use Rattle.j39_transfers.proofs.Common.{◌++◌, ◌∙◌, append-nil, ap, in_box, is_over, listed, map, Option, rest_of, sym, Transfer, transfer_in, TransfersRecord, transfers_of}
use Rattle.j39_transfers.specs.Transfers.{end_by, end_of, rest_by}
use Rattle.j39_transfers.specs.declared.running.Running.{Running}
use Rattle.j39_transfers.proofs.BoxLemmas.{none_placed, placed}
use Rattle.j39_transfers.proofs.transfers.Transfers.take_ended.Goals as goal

pub returns-in_err-place-clause-told : goal.returns-in_err-place-clause-told
returns-in_err-place-clause-told c =
    c.from_residual.ensures ∙ sym (ap end_by (none_placed in_box is_over c.args.self.now.current.items c.in_err-place.ensures).0)

pub returns-in_err-place-clause-ends : goal.returns-in_err-place-clause-ends
returns-in_err-place-clause-ends c =
    let n = none_placed in_box is_over c.args.self.now.current.items c.in_err-place.ensures in
    λ i. (let s : TransfersRecord = record (transfers_of c.args.self.now) {
      running = sym n.1 i;
      rests = sym (ap (λ (o : Option Transfer). (transfers_of c.args.self.now).rests ++ listed (rest_by o)) n.0 ∙ append-nil (transfers_of c.args.self.now).rests) i;
    } in s)

pub returns-clause-told : goal.returns-clause-told
returns-clause-told c =
    let items = c.args.self.now.current.items in
    let p = placed in_box is_over c.remove-running.result items c.in_ok-place.place c.in_ok-place.ensures in
    c.ended-ended.ensures
    ∙ (ap (λ (r : Running). end_of (transfer_in r)) c.deref.ensures ∙ (ap (λ b. end_of (in_box b)) c.remove-running.ensures.value ∙ sym (ap end_by p.1.0)))

pub returns-clause-ends : goal.returns-clause-ends
returns-clause-ends c =
    let items = c.args.self.now.current.items in
    let p = placed in_box is_over c.remove-running.result items c.in_ok-place.place c.in_ok-place.ensures in
    let r = c.rest.ensures.rests ∙ (ap (λ (r : Running). rest_of (transfer_in r)) c.deref-2.ensures ∙ (ap (λ b. rest_of (in_box b)) c.remove-running.ensures.value ∙ sym (ap rest_by p.1.0))) in
    λ i. (let s : TransfersRecord = record (transfers_of c.args.self.now) {
      running = (ap (map in_box) c.remove-running.ensures.items ∙ p.1.1) i;
      rests = (c.rest-2.ensures.items ∙ ap (λ o. (transfers_of c.args.self.now).rests ++ listed o) r) i;
    } in s)
