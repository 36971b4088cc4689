use Rattle.j39_node.proofs.Common.{◌∙◌, ◌||◌, age, ap, can_transfer, clock_at, Hold, length, all_transfers, min, nat_eq, not, order, pgn_raw, refl, stamp_micros, step, sym, View, answer, if◌then◌else◌, ◌+◌, ◌≡◌}
use Rattle.std.specs.Result.{is_ok}
use Rattle.j39_transfers.specs.Transfers.{awake, begins}
use Rattle.j39_node.proofs.CallLemmas.{led_so, follows, tokens_tried, transfers_tried}
use Rattle.j39_node.proofs.PortLemmas.{clock_is}
use Rattle.j39_node.proofs.ReceptionLemmas.{table_is}
use Rattle.j39_node.proofs.controller.Controller.transfer.Goals as goal
use Rattle.j39_node.proofs.AnswerCases.{answer_is}

pub returns-then-not-is_held : goal.returns-then-not-is_held
returns-then-not-is_held c = λ w H h.
    let p = led_so w H (stamp_micros c.args.now) c.args.self.now c.passed-self.result c.is_held.result h c.passed-self.ensures c.is_held.ensures in
    follows h refl (sym (answer_is (length (all_transfers w H)) (sym p.1 ∙ c.if-not-is_held.true) refl refl)) refl (λ i. record (h.shown i) { hold = p.0 i })

pub returns : goal.returns
returns c = λ w H h.
    let now = stamp_micros c.args.now in
    let group = pgn_raw c.args.group in
    let bytes = c.args.bytes.now in
    let p = led_so w H now c.args.self.now c.passed-self.result c.is_held.result h c.passed-self.ensures c.is_held.ensures in
    let can = c.can_transfer.ensures ∙ ap (λ (u : View). can_transfer u.who c.args.priority group c.args.to bytes) h.shown in
    let time : stamp_micros c.clock-clock.result ≡ clock_at w H now =
    c.clock-clock.ensures ∙ (ap (λ (k : Hold). min k.age 9999999999999999) p.0 ∙ clock_is (age w H + step H now)) in
    let name = c.holder-name.ensures.value ∙ table_is w c.args.self.now.holders H c.args.to h.holders in
    let answers = c.begin.ensures.answers ∙ λ i. let n = (h.shown i).port.next_token in
    if nat_eq n 18446744073709551615 || not (is_ok (answer (order n c.args.priority group c.args.to bytes) (awake (time i) (h.shown i).port.state))) then Rattle.std.specs.Prelude.Err Rattle.j39_node.specs.declared.kinds.Refused.TheVariants.Full else Rattle.std.specs.Prelude.Ok n in
    follows h refl
    (answers ∙ answer_is (length (all_transfers w H)) (sym c.if-not-is_held.false ∙ p.1) (sym c.if-not-can_transfer.false ∙ can) refl) refl
    (λ i. record (h.shown i) {
      hold = p.0 i;
      port = record {
        state = (c.begin.ensures.begins ∙ ((λ i. let n = (h.shown i).port.next_token in let s = (h.shown i).port.state in
            if nat_eq n 18446744073709551615 then s else begins (order n c.args.priority group c.args.to bytes) (name i) (time i) s)
            ∙ transfers_tried w H now c.args.priority group c.args.to bytes _ c.begin.result answers)) i;
        next_token = (c.begin.ensures.token ∙ tokens_tried w H now c.args.priority group c.args.to bytes _ c.begin.result (ap (λ (v : View). v.port.next_token) h.shown)) i;
      };
    })

pub returns-then-not-can_transfer : goal.returns-then-not-can_transfer
returns-then-not-can_transfer c = λ w H h.
    let p = led_so w H (stamp_micros c.args.now) c.args.self.now c.passed-self.result c.is_held.result h c.passed-self.ensures c.is_held.ensures in
    follows h refl (sym (answer_is (length (all_transfers w H)) (sym p.1 ∙ c.if-not-is_held.false)
    (sym (c.can_transfer.ensures ∙ ap (λ (u : View). can_transfer u.who c.args.priority (pgn_raw c.args.group) c.args.to c.args.bytes.now) h.shown) ∙ c.if-not-can_transfer.true) refl)) refl (λ i. record (h.shown i) { hold = p.0 i })
