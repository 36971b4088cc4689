use Rattle.j39_node.proofs.Common.{◌+◌, ◌∙◌, ◌≡◌, ap, arith, HearingRecord, length, made_of, map, message_by, MessageRecord, name_raw, of, option_map, others, packed, refl, skips, Some, source_of, stamp_micros, sym, whole_of, with_one, ℕ}
use Rattle.j39_node.specs.Boxes.{broadcast_by, in_box}
use Rattle.j39_node.specs.Hearing.{IsFit, sender_in, with_sender}
use Rattle.j39_node.specs.declared.hearing.Assembly.{Assembly}
use Rattle.j39_node.proofs.ListenLemmas.{all_of}
use Rattle.j39_node.proofs.hearing.Hearing.pack.Goals as goal

pub returns-clause-made : goal.returns-clause-made
returns-clause-made c = λ fits.
    let a = source_of c.args.frame.now.id in
    let xs = map in_box c.args.self.now.current.items in
    let y = broadcast_by c.deref_mut.result.now in
    let e = ap (λ (b : ℕ). of b xs) (sym c.source_in.ensures) ∙ (sym c.in-Some.ensures.value ∙ ap (λ (h : Assembly). Some (broadcast_by h)) (sym c.deref_mut.ensures.value)) in
    let g = c.goes_on.ensures.current (all_of IsFit a xs y fits e)
    (ap (λ (h : Assembly). skips c.args.frame.now (broadcast_by h)) (c.deref_mut.ensures.value ∙ sym c.deref.ensures) ∙ (sym c.is_gap.ensures ∙ c.if-is_gap.false)) in
    c.settle.ensures.made
    ∙ (λ i. made_of (option_map (λ (u : ℕ × MessageRecord). u.1) (whole_of ((g ∙ sym (ap (packed (stamp_micros c.args.time) c.args.frame.now) e)) i))))

pub returns-clause-heard : goal.returns-clause-heard
returns-clause-heard c = λ apart fits.
    let a = source_of c.args.frame.now.id in
    let xs = map in_box c.args.self.now.current.items in
    let y = broadcast_by c.deref_mut.result.now in
    let e = ap (λ (b : ℕ). of b xs) (sym c.source_in.ensures) ∙ (sym c.in-Some.ensures.value ∙ ap (λ (h : Assembly). Some (broadcast_by h)) (sym c.deref_mut.ensures.value)) in
    let g = c.goes_on.ensures.current (all_of IsFit a xs y fits e)
    (ap (λ (h : Assembly). skips c.args.frame.now (broadcast_by h)) (c.deref_mut.ensures.value ∙ sym c.deref.ensures) ∙ (sym c.is_gap.ensures ∙ c.if-is_gap.false)) in
    let rest = c.take_out.ensures.rest apart ∙ ap (λ (b : ℕ). others b xs) c.source_in.ensures in
    let stays = c.take_out.ensures.stays in
    let counts = c.in-Some.ensures.counts refl in
    let whole = ap (λ v. length v.items) stays.0 in
    let free = ap (λ v. length v.items) stays.1 in
    let boxes : length c.take_out.new.self.current.items + length c.take_out.new.self.whole.items + length c.take_out.new.self.free.items + 1
    ≡ length c.args.self.now.current.items + length c.args.self.now.whole.items + length c.args.self.now.free.items = omega (arith, counts, whole, free) in
    c.settle.ensures.settled
    ∙ λ i. (let x : HearingRecord = record {
      listening = with_one ((g ∙ sym (ap (packed (stamp_micros c.args.time) c.args.frame.now) e)) i) (record { current = rest i; waits = map (λ b. message_by (in_box b)) (stays.0 i).items });
      boxes = boxes i;
      missed = stays.2 i;
    } in x)

pub returns-clause-senders : goal.returns-clause-senders
returns-clause-senders c =
    let xs = map in_box c.args.self.now.current.items in
    let e = ap (λ (b : ℕ). of b xs) (sym c.source_in.ensures) ∙ (sym c.in-Some.ensures.value ∙ ap (λ (h : Assembly). Some (broadcast_by h)) (sym c.deref_mut.ensures.value)) in
    c.settle.ensures.senders
    ∙ λ i. with_sender c.settle.result ((ap (option_map name_raw) c.goes_on.ensures.name ∙ sym (ap sender_in e)) i) (map (λ b. (in_box b).name) (c.take_out.ensures.stays.0 i).items)
