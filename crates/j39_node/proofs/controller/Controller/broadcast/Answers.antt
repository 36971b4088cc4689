use Rattle.j39_node.proofs.Common.{◌∙◌, ap, arith, LaneRecord, Ok, pgn_raw, refl, Some, stamp_micros, sym, View, length, broadcasts, broadcast_from, ◌∷◌, [], ◌++◌, ◌+◌, ◌≡◌}
use Rattle.j39_node.specs.Hold.{opens}
use Rattle.j39_node.proofs.CallLemmas.{led_so, busy_is, follows, opens_so}
use Rattle.j39_node.proofs.controller.Controller.broadcast.Goals as goal
use Rattle.j39_node.proofs.AnswerCases.{answer_is}
use Rattle.j39_node.proofs.QueueLemmas.{length_one_more}

pub returns-in-Some : goal.returns-in-Some
returns-in-Some c = λ w H h.
    let p = led_so w H (stamp_micros c.args.now) c.args.self.now c.passed-self.result c.is_held.result h c.passed-self.ensures c.is_held.ensures in
    let o = opens_so _ _ _ c.in-Some.ensures.known in
    let m = broadcast_from w (pgn_raw c.args.group) c.args.bytes.now in
    let n = o.1 ∙ ap (λ (v : View). v.lane.next_token) h.shown in
    let more : c.in-Some.token + 1 ≡ length (broadcasts w H ++ m ∷ []) = let l = length_one_more (broadcasts w H) m in omega (arith, n, l) in
    follows h refl
    (sym (answer_is (length (broadcasts w H)) (sym p.1 ∙ c.if-not-is_held.false) (sym c.can_broadcast.ensures ∙ c.if-not-can_broadcast.false)
    (sym (busy_is w H c.args.self.now h) ∙ o.0) ∙ ap Ok (sym n))) refl
    (λ i. record (h.shown i) {
      hold = (c.opens-self.ensures ∙ ap opens p.0) i;
      lane = (c.in-Some.ensures.opened w ∙ λ i. (let l : LaneRecord = record { current = Some (c.in-Some.token, m); count = 0; next_token = more i; boxes = (h.shown i).lane.boxes } in l)) i;
    })
