use Rattle.j39_sessions.proofs.Common.{◌+◌, ◌++◌, ◌-◌, ◌<◌, ◌∙◌, ◌≡◌, ◌≤◌, ap, arith, drop, from, in_box, length, length-append, length-map, listed, map, name_raw, option_map, ReceiverRecord, remove, replied, replies_ticked, RecvResult, said_by, session_by, session_in, session_ticked, session_with, sessions_ticked, SessionsRecord, stamp_micros, suc, sym, take, tick_of}
use Rattle.std.proofs.lemmas.List.Edits.{length-remove}
use Rattle.j39_sessions.specs.declared.seat.Seat.{Seat}
use Rattle.j39_sessions.specs.declared.sessions.Sessions.{Sessions}
use Rattle.j39_sessions.proofs.BoxLemmas.{front, next_replied, next_ticked}
use Rattle.j39_sessions.proofs.StepLemmas.{own_ticked}
use Rattle.j39_sessions.proofs.sessions.Sessions.tick.Goals as goal

pub settle-requires-clause-at : goal.settle-requires-clause-at
settle-requires-clause-at c =
    let y = c.deref_mut.result.now in
    let t = c.loop-test.true in
    let n = c.loop.invariant.1 in
    let l : 0 < length c.loop.self.current.items = omega (arith, t, n) in
    let at = (c.loop.self.opened 0 c.remove-seat.result l).0 in
    ap (λ (s : ReceiverRecord). s.own) c.tick-said.ensures.state
    ∙ (own_ticked y.receiver.state.own (stamp_micros c.args.now) (session_in y)
    ∙ (ap (λ (s : Seat). s.receiver.state.own) c.deref_mut.ensures.value
    ∙ (ap (λ b. b.value.receiver.state.own) c.remove-seat.ensures.value ∙ (at ∙ sym (ap (λ (s : Sessions). s.own) c.reply.ensures.stays)))))

pub loop-preserved : goal.loop-preserved
loop-preserved c =
    let own = c.args.self.now.own in
    let now = stamp_micros c.args.now in
    let y = c.deref_mut.result.now in
    let v = c.deref_mut.ensures.value in
    let b = c.remove-seat.result in
    let x = in_box b in
    let xs = c.loop.self.current.items in
    let ys = remove xs 0 in
    let t = c.loop-test.true in
    let n = c.loop.invariant.1 in
    let l : 0 < length xs = omega (arith, t, n) in
    let first = front xs b l c.remove-seat.ensures.value in
    let r = c.len-count.result - (c.loop.counter + 1) in
    let more : suc r ≡ c.len-count.result - c.loop.counter = omega (arith, t) in
    let at : y.receiver.state.own ≡ own =
    ap (λ (s : Seat). s.receiver.state.own) v ∙ (ap (λ b. b.value.receiver.state.own) c.remove-seat.ensures.value ∙ ((c.loop.self.opened 0 b l).0 ∙ c.loop.invariant.6)) in
    let step : tick_of y.receiver.state.own now (session_in y) ≡ tick_of own now x = λ i. tick_of (at i) now (session_in (v i)) in
    let stays = c.reply.ensures.stays in
    let part : option_map (session_with c.tick-said.new.self) c.tick-said.new.self.receiver.state.session ≡ session_ticked own now x =
    λ i. option_map (session_by (ap stamp_micros (c.tick-said.ensures.stays.0 ∙ ap (λ (s : Seat). s.since) v) i) (ap (option_map name_raw) (c.tick-said.ensures.stays.1 ∙ ap (λ (s : Seat). s.name) v) i))
    ((c.tick-said.ensures.state ∙ ap (λ (w : RecvResult). w.after) step) i).session in
    let items = ap (λ (s : Sessions). s.current.items) stays ∙ c.remove-seat.ensures.items in
    let all : map in_box c.settle.new.self.current.items ≡ map in_box ys ++ listed (session_ticked own now x) =
    ap (λ (s : SessionsRecord). s.sessions) c.settle.ensures.settled ∙ (λ i. map in_box (items i) ++ listed (part i)) in
    let source = c.source-source.ensures ∙ ap (λ (s : Seat). from (session_in s)) c.deref.ensures in
    let said : map said_by c.settle.new.self.replies.items ≡ replied (from x) (tick_of own now x).sends (map said_by c.loop.self.replies.items) =
    ap (λ (s : SessionsRecord). s.replies) c.settle.ensures.settled
    ∙ (ap (λ (s : SessionsRecord). s.replies) (c.reply.ensures.replied (tick_of y.receiver.state.own now (session_in y)).sends c.tick-said.ensures.says)
    ∙ (λ i. replied (source i) (step i).sends (map said_by c.loop.self.replies.items))) in
    let m = length-map ys in_box in
    let less = length-remove xs 0 l in
    let k = ap length all ∙ length-append (map in_box ys) (listed (session_ticked own now x)) in
    let g = length-map c.settle.new.self.current.items in_box in
    let fits : r ≤ length (map in_box ys) = omega (arith, m, less, n, t) in
    let boxes = ap (λ (s : SessionsRecord). s.boxes) c.settle.ensures.settled in
    let whole = c.settle.ensures.stays.0 ∙ ap (λ (s : Sessions). s.whole) stays in
    let w = ap (λ u. length u.items) c.settle.ensures.stays.0 in
    let cur = ap length items in
    let free = ap (λ (s : Sessions). length s.free.items) stays in
    let sum = c.loop.invariant.4 in (
      omega (arith, t),
      omega (arith, m, less, n, t, k, g),
      (λ i. drop r (all i) ++ sessions_ticked own now (take r (all i)))
          ∙ (next_ticked own now x (map in_box ys) r fits
          ∙ ((λ i. drop (more i) (map in_box (sym first i)) ++ sessions_ticked own now (take (more i) (map in_box (sym first i)))) ∙ c.loop.invariant.2)),
      (λ i. replies_ticked own now (take r (all i)) (said i))
          ∙ (next_replied own now x (map in_box ys) r (map said_by c.loop.self.replies.items) fits
          ∙ ((λ i. replies_ticked own now (take (more i) (map in_box (sym first i))) (map said_by c.loop.self.replies.items)) ∙ c.loop.invariant.3)),
      omega (arith, boxes, w, cur, free, less, sum),
      whole ∙ c.loop.invariant.5,
      c.settle.ensures.stays.1 ∙ (ap (λ (s : Sessions). s.own) stays ∙ c.loop.invariant.6),
      ap (λ (s : SessionsRecord). s.most) c.settle.ensures.settled ∙ (ap (λ (s : Sessions). s.most) stays ∙ c.loop.invariant.7),
    )
