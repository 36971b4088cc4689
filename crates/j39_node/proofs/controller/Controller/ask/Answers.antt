use Rattle.j39_node.proofs.LawLemmas.{sent_within}
use Rattle.j39_node.proofs.Common.{◌∙◌, ap, arith, can_ask, message_from, Ok, pgn_raw, refl, request_for, stamp_micros, sym, View, Who, length, accepted, not_true, Bool, None, Option, Some, le-ltb, question, reached, AskRecord, ◌∷◌, [], ◌++◌, ◌+◌, ◌≡◌}
use Rattle.j39_node.proofs.CallLemmas.{asks_no_more_is, led_so, follows, posted_more}
use Rattle.j39_node.proofs.controller.Controller.ask.Goals as goal
use Rattle.j39_node.proofs.AnswerCases.{answer_is}
use Rattle.j39_node.proofs.QueueLemmas.{length_one_more}
use Rattle.j39_node.proofs.SoundLemmas.{sound}

pub returns-then-asks_no_more : goal.returns-then-asks_no_more
returns-then-asks_no_more c = λ w H h.
    let p = led_so w H (stamp_micros c.args.now) c.args.self.now c.passed-self.result c.is_held.result h c.passed-self.ensures c.is_held.ensures in
    follows h refl (sym (answer_is (length (accepted w H)) (sym p.1 ∙ c.if-not-is_held.false)
    (ap (λ (v : Who). can_ask v (pgn_raw c.args.group) c.args.to) (sym (ap (λ (v : View). v.who) h.shown)) ∙ c.in-Some.ensures.known.0 refl)
    (sym (asks_no_more_is w H c.args.self.now h) ∙ (sym c.asks_no_more.ensures.value ∙ c.if-asks_no_more.true)))) refl (λ i. record (h.shown i) { hold = p.0 i })

pub returns-else-asks_no_more : goal.returns-else-asks_no_more
returns-else-asks_no_more c = λ w H h.
    let p = led_so w H (stamp_micros c.args.now) c.args.self.now c.passed-self.result c.is_held.result h c.passed-self.ensures c.is_held.ensures in
    let m = message_from w (request_for (pgn_raw c.args.group) c.args.to) in
    let t = ap (λ (v : View). v.token) h.shown in
    let l = length_one_more (accepted w H) (c.args.self.now.next_token, m) in
    follows h refl
    (ap Ok t ∙ sym (answer_is (length (accepted w H)) (sym p.1 ∙ c.if-not-is_held.false)
    (ap (λ (v : Who). can_ask v (pgn_raw c.args.group) c.args.to) (sym (ap (λ (v : View). v.who) h.shown)) ∙ c.in-Some.ensures.known.0 refl)
    (sym (asks_no_more_is w H c.args.self.now h) ∙ (sym c.asks_no_more.ensures.value ∙ c.if-asks_no_more.false)))) refl
    (λ i. record (h.shown i) {
      hold = p.0 i;
      outgoing = posted_more w H c.args.self.now h c.in-Some.message m
          (c.in-Some.ensures.value ∙ ap (λ (u : View). (c.args.self.now.next_token, message_from u.who (request_for (pgn_raw c.args.group) c.args.to))) h.shown) c.push.ensures.items i;
      token = (let z : c.args.self.now.next_token + 1 ≡ length (accepted w H ++ (c.args.self.now.next_token, m) ∷ []) = omega (arith, t, l) in z) i;
      asking = (ap (λ (y : AskRecord). Some y) c.new.ensures
          ∙ ap (λ (b : Bool). (let r : Option AskRecord = Some (record { question = question c.args.self.now.next_token (pgn_raw c.args.group) c.args.to; taken = b; ending = None }) in r))
          (sym (le-ltb c.args.self.now.next_token (reached H) (let a = sent_within w H (sound w H h.answered) in omega (arith, t, a))))) i;
    })

pub returns-in-None : goal.returns-in-None
returns-in-None c = λ w H h.
    let p = led_so w H (stamp_micros c.args.now) c.args.self.now c.passed-self.result c.is_held.result h c.passed-self.ensures c.is_held.ensures in
    follows h refl (sym (answer_is (length (accepted w H)) (sym p.1 ∙ c.if-not-is_held.false)
    (ap (λ (v : Who). can_ask v (pgn_raw c.args.group) c.args.to) (sym (ap (λ (v : View). v.who) h.shown)) ∙ not_true _ c.in-None.ensures.known.1) refl)) refl (λ i. record (h.shown i) { hold = p.0 i })
