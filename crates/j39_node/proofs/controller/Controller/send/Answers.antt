use Rattle.j39_node.proofs.Common.{◌∙◌, ap, arith, can_send, Draft, message_from, pgn_raw, refl, stamp_micros, sym, View, Who, length, accepted, not_true, Ok, ◌∷◌, [], ◌++◌, ◌+◌, ◌≡◌}
use Rattle.j39_node.proofs.CallLemmas.{led_so, full_is, follows, posted_more}
use Rattle.j39_node.proofs.controller.Controller.send.Goals as goal
use Rattle.j39_node.proofs.AnswerCases.{answer_is}
use Rattle.j39_node.proofs.QueueLemmas.{length_one_more}

pub push-requires : goal.push-requires
push-requires c = (omega arith, c.is_full.ensures.room c.if-is_full.false)

pub returns-else-is_full : goal.returns-else-is_full
returns-else-is_full c = λ w H h.
    let p = led_so w H (stamp_micros c.args.now) c.args.self.now c.passed-self.result c.is_held.result h c.passed-self.ensures c.is_held.ensures in
    let d : Draft = record { priority = c.args.priority; group = pgn_raw c.args.group; to = c.args.to; bytes = c.args.bytes.now } in
    let a = ap (λ (v : View). v.token) h.shown in
    let m = length_one_more (accepted w H) (c.args.self.now.next_token, message_from w d) in
    follows h refl
    (ap Ok a ∙ sym (answer_is (length (accepted w H)) (sym p.1 ∙ c.if-not-is_held.false) (ap (λ (v : Who). can_send v d) (sym (ap (λ (v : View). v.who) h.shown)) ∙ c.in-Some.ensures.known.0 refl)
    (sym (full_is w H c.args.self.now h) ∙ (sym c.is_full.ensures.value ∙ c.if-is_full.false)))) refl
    (λ i. record (h.shown i) {
      hold = p.0 i;
      outgoing = posted_more w H c.args.self.now h c.in-Some.message (message_from w d)
          (c.in-Some.ensures.value ∙ ap (λ (u : View). (c.args.self.now.next_token, message_from u.who d)) h.shown) c.push.ensures.items i;
      token = (let z : c.args.self.now.next_token + 1 ≡ length (accepted w H ++ (c.args.self.now.next_token, message_from w d) ∷ []) = omega (arith, a, m) in z) i;
    })

pub returns-then-is_full : goal.returns-then-is_full
returns-then-is_full c = λ w H h.
    let p = led_so w H (stamp_micros c.args.now) c.args.self.now c.passed-self.result c.is_held.result h c.passed-self.ensures c.is_held.ensures in
    let d : Draft = record { priority = c.args.priority; group = pgn_raw c.args.group; to = c.args.to; bytes = c.args.bytes.now } in
    follows h refl (sym (answer_is (length (accepted w H)) (sym p.1 ∙ c.if-not-is_held.false)
    (ap (λ (v : Who). can_send v d) (sym (ap (λ (v : View). v.who) h.shown)) ∙ c.in-Some.ensures.known.0 refl)
    (sym (full_is w H c.args.self.now h) ∙ (sym c.is_full.ensures.value ∙ c.if-is_full.true)))) refl (λ i. record (h.shown i) { hold = p.0 i })

pub returns-in-None : goal.returns-in-None
returns-in-None c = λ w H h.
    let p = led_so w H (stamp_micros c.args.now) c.args.self.now c.passed-self.result c.is_held.result h c.passed-self.ensures c.is_held.ensures in
    let d : Draft = record { priority = c.args.priority; group = pgn_raw c.args.group; to = c.args.to; bytes = c.args.bytes.now } in
    follows h refl (sym (answer_is (length (accepted w H)) (sym p.1 ∙ c.if-not-is_held.false)
    (ap (λ (v : Who). can_send v d) (sym (ap (λ (v : View). v.who) h.shown)) ∙ not_true _ c.in-None.ensures.known.1) refl)) refl (λ i. record (h.shown i) { hold = p.0 i })
