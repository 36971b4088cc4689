use Rattle.j39_node.proofs.Common.{◌∙◌, acknowledged, ap, due, eq-eqb, length, nat_eq, refl, refusal_by, stamp_micros, sym, View, ℕ, map, acknowledgment, request_by, ◌∷◌, [], ◌++◌, map-append, drop-append-le}
use Rattle.j39_node.proofs.QueueLemmas.{length_rest}
use Rattle.j39_node.proofs.CallLemmas.{led_so, follows}
use Rattle.j39_node.proofs.controller.Controller.acknowledge.Goals as goal
use Rattle.j39_node.proofs.AnswerCases.{answer_is}
use Rattle.j39_node.proofs.SoundLemmas.{sound, front_length}

pub returns : goal.returns
returns c = λ w H h.
    let p = led_so w H (stamp_micros c.args.now) c.args.self.now c.passed-self.result c.is_held.result h c.passed-self.ensures c.is_held.ensures in
    follows h refl
    (sym (answer_is tt (sym p.1 ∙ c.if-not-is_held.false)
    (eq-eqb _ _ (c.if-request-self.false ∙ ap (λ (u : View). u.who.address) h.shown))
    (ap (λ (n : ℕ). nat_eq n 16) (sym (length_rest (refusal_by w) c.args.self.now.desk.due.items (length (acknowledged H)) (due w H) (ap (λ (v : View). v.acknowledgments) h.shown)))
    ∙ (sym c.is_full.ensures.value ∙ c.if-is_full.false)))) refl
    (λ i. record (h.shown i) {
      hold = p.0 i;
      acknowledgments = (ap (map (refusal_by w)) c.push.ensures.items ∙ (map-append (refusal_by w) c.args.self.now.desk.due.items _
          ∙ ((λ i. (h.shown i).acknowledgments ++ c.new.ensures w i ∷ [])
          ∙ sym (drop-append-le (length (acknowledged H)) (due w H) (acknowledgment w c.args.answer (request_by c.args.request) ∷ []) (front_length (acknowledged H) (due w H) (sound w H h.answered).desk.1))))) i;
    })
