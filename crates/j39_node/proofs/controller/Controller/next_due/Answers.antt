use Rattle.j39_node.proofs.Common.{if◌then◌else◌, ◌+◌, ◌∙◌, address_after, ap, at_in, delayed, false, left_at, moment, Option, option_map, owes_claim, stamp_at, stamp_micros, sym, true, View, ℕ}
use Rattle.j39_node.proofs.CallLemmas.{frame_due, held_due, packets_due, held_at_is, due_is}
use Rattle.j39_node.proofs.controller.Controller.next_due.Goals as goal

pub returns-then-has_frame : goal.returns-then-has_frame
returns-then-has_frame c = λ w H h.
    c.at.ensures ∙ (ap (λ (v : View). stamp_at v.hold.moment) h.shown
    ∙ due_is w H true _ (sym c.if-has_frame.true ∙ (c.has_frame.ensures ∙ frame_due w H c.args.self.now h)) (held_due w H c.args.self.now _ h Rattle.std.proofs.Common.refl))

pub returns-in_ok-packets_in : goal.returns-in_ok-packets_in
returns-in_ok-packets_in c = λ w H h.
    c.later.ensures ∙ (ap (λ (v : View). stamp_at (v.hold.moment + c.in_ok-packets_in.field-0)) h.shown
    ∙ (ap (at_in (moment H)) (sym c.in_ok-packets_in.was ∙ (c.packets_in.ensures w ∙ packets_due w H c.args.self.now h))
    ∙ due_is w H false true (sym c.if-has_frame.false ∙ (c.has_frame.ensures ∙ frame_due w H c.args.self.now h))
    (held_due w H c.args.self.now true h (sym c.if-is_held.true ∙ c.is_held.ensures))))

pub returns-in_err-packets_in : goal.returns-in_err-packets_in
returns-in_err-packets_in c = λ w H h.
    ap (option_map stamp_micros) c.from_residual.ensures
    ∙ (ap (at_in (moment H)) (sym c.in_err-packets_in.was ∙ (c.packets_in.ensures w ∙ packets_due w H c.args.self.now h))
    ∙ due_is w H false true (sym c.if-has_frame.false ∙ (c.has_frame.ensures ∙ frame_due w H c.args.self.now h))
    (held_due w H c.args.self.now true h (sym c.if-is_held.true ∙ c.is_held.ensures)))

pub returns-else-is_held : goal.returns-else-is_held
returns-else-is_held c = λ w H h.
    c.claim_at.ensures ∙ (ap (λ (v : View). if v.hold.owes_claim then stamp_at (v.hold.moment + v.hold.delay) else left_at v.hold.standing v.hold.moment) h.shown
    ∙ (ap (λ (o : Option ℕ). if owes_claim w H then stamp_at (moment H + delayed w H) else o) (held_at_is (address_after w H) (moment H))
    ∙ due_is w H false false (sym c.if-has_frame.false ∙ (c.has_frame.ensures ∙ frame_due w H c.args.self.now h))
    (held_due w H c.args.self.now false h (sym c.if-is_held.false ∙ c.is_held.ensures))))
