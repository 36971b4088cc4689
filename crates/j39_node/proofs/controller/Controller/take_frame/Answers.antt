use Rattle.j39_node.proofs.Common.{◌+◌, ◌-◌, ◌∙◌, acknowledged, ap, due, false, IncomingRecord, length, refl, refusal_by, Some, stamp_micros, sym, true, View, with_called, called_for, None, holder_in, port_of, ℕ}
use Rattle.j39_transfers.specs.Transfers.{leaves}
use Rattle.j39_node.proofs.QueueLemmas.{first}
use Rattle.j39_node.proofs.CallLemmas.{due_there, gives_is, follows, goes_is, none_acknowledged, peeks_none, one_acknowledged, passed_is, holds_is, taken_due, claims_more}
use Rattle.j39_node.proofs.controller.Controller.take_frame.Goals as goal

pub returns-then-is_acknowledgment_due : goal.returns-then-is_acknowledgment_due
returns-then-is_acknowledgment_due c = λ w H h.
    let p = passed_is w H (stamp_micros c.args.now) c.args.self.now.hold c.passed-hold.result (ap (λ (v : View). v.hold) h.shown) c.passed-hold.ensures in
    let g = gives_is w H c.args.self.now (stamp_micros c.args.now) c.passed-hold.result c.gives_way-gives_way.result h p c.gives_way-gives_way.ensures in
    let b = sym (holds_is w H (stamp_micros c.args.now) c.passed-hold.result c.is_held.result p c.is_held.ensures) ∙ c.if-not-is_held.false in
    let f = first (refusal_by w) _ _ c.remove.result (length (acknowledged H)) (due w H) (ap (λ (v : View). v.acknowledgments) h.shown)
    (due_there _ _ (sym c.is_acknowledgment_due.ensures ∙ c.if-is_acknowledgment_due.true)) c.remove.ensures.value c.remove.ensures.items in
    taken_due w H c.args.self.now _ (stamp_micros c.args.now) _ c.remove.result c.passed-hold.result h p (goes_is w H (stamp_micros c.args.now) c.passed-hold.result c.gives_way-gives_way.result false p g (sym c.claims.ensures ∙ c.if-claims.false)) b
    (one_acknowledged w H (stamp_micros c.args.now) c.gives_way-gives_way.result _ _ g (sym c.is_acknowledgment_due.ensures ∙ c.if-is_acknowledgment_due.true) f.is) f
    (c.acknowledgment.ensures ∙ ap (λ (u : View). Some (stamp_micros c.args.now, refusal_by u.who c.remove.result)) h.shown) refl c.acknowledged-self.ensures

pub returns-then-claims : goal.returns-then-claims
returns-then-claims c = λ w H h.
    let p = passed_is w H (stamp_micros c.args.now) c.args.self.now.hold c.passed-hold.result (ap (λ (v : View). v.hold) h.shown) c.passed-hold.ensures in
    let g = gives_is w H c.args.self.now (stamp_micros c.args.now) c.passed-hold.result c.gives_way-gives_way.result h p c.gives_way-gives_way.ensures in
    claims_more w H c.args.self.now _ (stamp_micros c.args.now) c.in_ok-claim.claim c.passed-hold.result c.claim_address-address.result h p
    (goes_is w H (stamp_micros c.args.now) c.passed-hold.result c.gives_way-gives_way.result true p g (sym c.claims.ensures ∙ c.if-claims.true)) c.claimed-self.ensures c.in_ok-claim.ensures c.claim_address-address.ensures
    c.note.ensures.knows (c.call.ensures ∙ ap (λ (x : IncomingRecord). with_called (called_for (1250000 + (stamp_micros c.args.now - x.moment)) (Some c.claim_address-address.result) x.called) x) c.note.ensures.left) c.leave-breaks.result (stamp_micros c.call.new.self.clock)
    (ap (λ (x : IncomingRecord). x.clock) (c.call.ensures ∙ ap (λ (x : IncomingRecord). with_called (called_for (1250000 + (stamp_micros c.args.now - x.moment)) (Some c.claim_address-address.result) x.called) x) c.note.ensures.left) ∙ ap (λ (v : View). v.incoming.clock) h.shown)
    c.leave-breaks.ensures.broken c.leave-breaks.ensures.left c.leave-breaks.ensures.whole c.with_missed-self.ensures
    (c.leave.ensures ∙ ap (λ (n : ℕ). leaves None (holder_in c.note.new.holders) n (port_of c.args.self.now.transfers).state) c.clock-clock.ensures) refl refl

pub returns : goal.returns
returns c = λ w H h.
    let p = passed_is w H (stamp_micros c.args.now) c.args.self.now.hold c.passed-hold.result (ap (λ (v : View). v.hold) h.shown) c.passed-hold.ensures in
    let g = gives_is w H c.args.self.now (stamp_micros c.args.now) c.passed-hold.result c.gives_way-gives_way.result h p c.gives_way-gives_way.ensures in
    c.take_other.ensures w H h (record {
      passed = p;
      owes = goes_is w H (stamp_micros c.args.now) c.passed-hold.result c.gives_way-gives_way.result false p g (sym c.claims.ensures ∙ c.if-claims.false);
      held = sym (holds_is w H (stamp_micros c.args.now) c.passed-hold.result c.is_held.result p c.is_held.ensures) ∙ c.if-not-is_held.false;
      none = none_acknowledged w H c.args.self.now (stamp_micros c.args.now) c.gives_way-gives_way.result h g (sym c.is_acknowledgment_due.ensures ∙ c.if-is_acknowledgment_due.false);
    })

pub returns-then-not-is_held : goal.returns-then-not-is_held
returns-then-not-is_held c = λ w H h.
    let p = passed_is w H (stamp_micros c.args.now) c.args.self.now.hold c.passed-hold.result (ap (λ (v : View). v.hold) h.shown) c.passed-hold.ensures in
    let g = gives_is w H c.args.self.now (stamp_micros c.args.now) c.passed-hold.result c.gives_way-gives_way.result h p c.gives_way-gives_way.ensures in
    follows h refl (peeks_none w H c.args.self.now (stamp_micros c.args.now) h
    (goes_is w H (stamp_micros c.args.now) c.passed-hold.result c.gives_way-gives_way.result false p g (sym c.claims.ensures ∙ c.if-claims.false))
    (sym (holds_is w H (stamp_micros c.args.now) c.passed-hold.result c.is_held.result p c.is_held.ensures) ∙ c.if-not-is_held.true)) refl (λ i. record (h.shown i) { hold = p i })
