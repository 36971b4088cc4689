use Rattle.j39_node.proofs.Common.{◌∙◌, ap, false, option_map, refusal_by, Some, stamp_micros, sym, true, View}
use Rattle.j39_node.proofs.CallLemmas.{first_acknowledged, gives_is, passed_is, holds_is, peeks_claim, peeks_none, peeks_due, peeks_other, goes_is}
use Rattle.j39_node.proofs.controller.Controller.peek_frame.Goals as goal

pub returns-then-claims : goal.returns-then-claims
returns-then-claims c = λ w H h.
    let p = passed_is w H (stamp_micros c.args.now) c.args.self.now.hold c.passed-hold.result (ap (λ (v : View). v.hold) h.shown) c.passed-hold.ensures in
    let g = gives_is w H c.args.self.now (stamp_micros c.args.now) c.passed-hold.result c.gives_way-gives_way.result h p c.gives_way-gives_way.ensures in
    peeks_claim w H c.args.self.now (stamp_micros c.args.now) _ _ h (goes_is w H (stamp_micros c.args.now) c.passed-hold.result c.gives_way-gives_way.result true p g (sym c.claims.ensures ∙ c.if-claims.true)) c.claim.ensures c.claim_address-address.ensures

pub returns-then-not-is_held : goal.returns-then-not-is_held
returns-then-not-is_held c = λ w H h.
    let p = passed_is w H (stamp_micros c.args.now) c.args.self.now.hold c.passed-hold.result (ap (λ (v : View). v.hold) h.shown) c.passed-hold.ensures in
    let g = gives_is w H c.args.self.now (stamp_micros c.args.now) c.passed-hold.result c.gives_way-gives_way.result h p c.gives_way-gives_way.ensures in
    peeks_none w H c.args.self.now (stamp_micros c.args.now) h (goes_is w H (stamp_micros c.args.now) c.passed-hold.result c.gives_way-gives_way.result false p g (sym c.claims.ensures ∙ c.if-claims.false))
    (sym (holds_is w H (stamp_micros c.args.now) c.passed-hold.result c.is_held.result p c.is_held.ensures) ∙ c.if-not-is_held.true)

pub returns-in-Some : goal.returns-in-Some
returns-in-Some c = λ w H h.
    let p = passed_is w H (stamp_micros c.args.now) c.args.self.now.hold c.passed-hold.result (ap (λ (v : View). v.hold) h.shown) c.passed-hold.ensures in
    let g = gives_is w H c.args.self.now (stamp_micros c.args.now) c.passed-hold.result c.gives_way-gives_way.result h p c.gives_way-gives_way.ensures in
    let b = sym (holds_is w H (stamp_micros c.args.now) c.passed-hold.result c.is_held.result p c.is_held.ensures) ∙ c.if-not-is_held.false in
    peeks_due w H c.args.self.now (stamp_micros c.args.now) _ c.in-Some.due.now h (goes_is w H (stamp_micros c.args.now) c.passed-hold.result c.gives_way-gives_way.result false p g (sym c.claims.ensures ∙ c.if-claims.false)) b
    ((first_acknowledged w H c.args.self.now (stamp_micros c.args.now) c.gives_way-gives_way.result _ h g c.first_due.ensures) ∙ ap (λ o. option_map (refusal_by w) (option_map (λ d. d.now) o)) c.in-Some.is)
    (c.acknowledgment.ensures ∙ ap (λ (u : View). Some (stamp_micros c.args.now, refusal_by u.who c.in-Some.due.now)) h.shown)

pub returns-in-None : goal.returns-in-None
returns-in-None c = λ w H h.
    let p = passed_is w H (stamp_micros c.args.now) c.args.self.now.hold c.passed-hold.result (ap (λ (v : View). v.hold) h.shown) c.passed-hold.ensures in
    let g = gives_is w H c.args.self.now (stamp_micros c.args.now) c.passed-hold.result c.gives_way-gives_way.result h p c.gives_way-gives_way.ensures in
    let b = sym (holds_is w H (stamp_micros c.args.now) c.passed-hold.result c.is_held.result p c.is_held.ensures) ∙ c.if-not-is_held.false in
    peeks_other w H c.args.self.now (stamp_micros c.args.now) c.passed-hold.result _ h (record {
      passed = p;
      owes = goes_is w H (stamp_micros c.args.now) c.passed-hold.result c.gives_way-gives_way.result false p g (sym c.claims.ensures ∙ c.if-claims.false);
      held = b;
      none = first_acknowledged w H c.args.self.now (stamp_micros c.args.now) c.gives_way-gives_way.result _ h g c.first_due.ensures ∙ ap (λ o. option_map (refusal_by w) (option_map (λ d. d.now) o)) c.in-None.is;
    }) c.peek_other.ensures
