use Rattle.j39_node.proofs.Common.{◌+◌, ◌∙◌, ◌∷◌, ◌≡◌, ap, At, FrameRecord, Is, is_blank, map, Option, option_map, past, port_of, posted, refl, Some, stamp_micros, subst, suc, sym, TakeFrame, carried_by, said, ℕ}
use Rattle.j39_transfers.specs.Transfers.{sends}
use Rattle.j39_node.proofs.QueueLemmas.{read, read_none}
use Rattle.j39_node.proofs.CallLemmas.{move_goes, packet_goes, single_there, taken, taken_none, taken_packet, taken_reply, taken_transfer}
use Rattle.j39_node.proofs.FrameLemmas.{at_now}
use Rattle.j39_node.proofs.controller.Controller.take_other.Goals as goal

pub returns-in_err-turn : goal.returns-in_err-turn
returns-in_err-turn c = λ w H h o.
    subst (λ (r : Option FrameRecord). Is w (At (stamp_micros c.args.now) (TakeFrame r) ∷ H) (record c.args.self.now { hold = c.args.hold }))
    (sym c.from_residual.ensures)
    (taken_none w H c.args.self.now _ (stamp_micros c.args.now) h o (sym c.turn.ensures ∙ c.in_err-turn.was) refl)

pub returns-in-Reply : goal.returns-in-Reply
returns-in-Reply c = λ w H h o.
    let t = sym c.turn.ensures ∙ (c.in_ok-turn.was ∙ ap Some c.in-Reply.is) in
    taken_reply w H c.args.self.now _ (stamp_micros c.args.now) _ c.args.hold h o t c.take_frame.ensures.frame c.take_frame.ensures.taken refl c.spoken-self.ensures

pub returns-in_ok-next-in-Single : goal.returns-in_ok-next-in-Single
returns-in_ok-next-in-Single c = λ w H h o.
    let t = sym c.turn.ensures ∙ (c.in_ok-turn.was ∙ ap Some c.in-Single.is) in
    taken w H c.args.self.now _ (stamp_micros c.args.now) _ c.in_ok-next-in-Single.next.now c.args.hold h o t
    (read c.as_slice.result.now _ _ _ c.as_slice.ensures.value c.in_ok-next-in-Single.ensures.lookup.3.0 c.in_ok-next-in-Single.ensures.lookup.1) c.frame-frame.ensures refl
    (c.past-self.ensures ∙ λ i. past (map is_blank (map posted (c.as_slice-in-Single.ensures.value i))) ((let z : c.args.self.now.taken + 1 ≡ suc c.args.self.now.taken = omega Rattle.std.proofs.Common.arith in z) i))
    c.take-is_request.result c.asks_whom.result c.call.ensures c.asks_whom.ensures c.take-is_request.ensures.current c.take-is_request.ensures.value c.asked-self.ensures

pub returns-in_err-next-in-Single : goal.returns-in_err-next-in-Single
returns-in_err-next-in-Single c = λ w H h o.
    let t = sym c.turn.ensures ∙ (c.in_ok-turn.was ∙ ap Some c.in-Single.is) in
    absurd (single_there c.args.self.now c.args.hold t (read_none c.as_slice.result.now _ _ c.as_slice.ensures.value c.in_err-next-in-Single.ensures.lookup.3))

pub returns-in_ok-packet-in-Packet : goal.returns-in_ok-packet-in-Packet
returns-in_ok-packet-in-Packet c = λ w H h o.
    let t = sym c.turn.ensures ∙ (c.in_ok-turn.was ∙ ap Some c.in-Packet.is) in
    taken_packet w H c.args.self.now _ (stamp_micros c.args.now) c.in_ok-packet-in-Packet.packet c.args.hold h o t
    c.in_ok-packet-in-Packet.ensures.frame refl c.paused-self.ensures refl (omega Rattle.std.proofs.Common.arith)

pub returns-in_err-packet-in-Packet : goal.returns-in_err-packet-in-Packet
returns-in_err-packet-in-Packet c = λ w H h o.
    let t = sym c.turn.ensures ∙ (c.in_ok-turn.was ∙ ap Some c.in-Packet.is) in
    absurd (packet_goes c.args.self.now c.args.hold (stamp_micros c.args.now) t c.in_err-packet-in-Packet.ensures.frame)

pub returns-in_ok-frame-in-Move : goal.returns-in_ok-frame-in-Move
returns-in_ok-frame-in-Move c = λ w H h o.
    let t = sym c.turn.ensures ∙ (c.in_ok-turn.was ∙ ap Some c.in-Move.is) in
    taken_transfer w H c.args.self.now _ (stamp_micros c.args.now) c.in_ok-frame-in-Move.frame c.args.hold h o t
    (c.in_ok-frame-in-Move.ensures
    ∙ ap (λ (n : ℕ). option_map (at_now (stamp_micros c.args.now)) (option_map carried_by (said n (port_of c.args.self.now.transfers).state))) c.clock-clock.ensures)
    refl (c.drop_frame.ensures.sent ∙ ap (λ (n : ℕ). sends n (port_of c.args.self.now.transfers).state) c.clock-clock.ensures) refl c.went-self.ensures

pub returns-in_err-frame-in-Move : goal.returns-in_err-frame-in-Move
returns-in_err-frame-in-Move c = λ w H h o.
    let t = sym c.turn.ensures ∙ (c.in_ok-turn.was ∙ ap Some c.in-Move.is) in
    absurd (move_goes c.args.self.now c.args.hold (stamp_micros c.args.now) t
    (c.in_err-frame-in-Move.ensures
    ∙ ap (λ (n : ℕ). option_map (at_now (stamp_micros c.args.now)) (option_map carried_by (said n (port_of c.args.self.now.transfers).state))) c.clock-clock.ensures))
