use Rattle.j39_node.proofs.Common.{[], ◌&&◌, ◌++◌, ◌∙◌, ◌∷◌, acknowledgment, Answer, ap, eq-eqb, inl, inr, is_refusal_due, length, map, Message, nat_lt, not, nothing, Option, option_map, refusal_by, Request, request_by, Some, sym, who_of, with_refusal, map-append}
use Rattle.j39_node.proofs.KnownLemmas.{no_room, not_refused, place_by, refused, served_not}
use Rattle.j39_node.proofs.requests.Desk.hear.Goals as goal
use Rattle.j39_node.proofs.requests.Desk.hear.Goals.{else-is_served-via-then-is_served+else-not-is_full, else-is_served-via-else-is_served, else-request-own-via-then-request-own+else-has_place, else-request-own-via-else-request-own}

pub returns-then-has_place-clause-due : goal.returns-then-has_place-clause-due
returns-then-has_place-clause-due c =
    let W = who_of nothing c.args.own.now in
    let r = request_by c.in-Some.request in
    let A = map (refusal_by W) c.args.self.now.due.items in
    ap (map (refusal_by W)) c.push-then-has_place.ensures.items
    ∙ (map-append (refusal_by W) c.args.self.now.due.items _
    ∙ (ap (λ (m : Message). A ++ m ∷ []) (c.new.ensures W ∙ ap (λ (a : Answer). acknowledgment W a r) c.refusal-answer.ensures)
    ∙ (sym (refused W (nat_lt (length c.args.self.now.waiting.items) 16)
    (nat_lt (length c.args.self.now.due.items) 16 && not (is_refusal_due W A (Some r))) r A (eq-eqb _ _ c.if-request-own.true)
    (place_by W _ c.has_place-has_place.result c.refusal-answer.result r A c.refusal-answer.ensures (c.has_place-has_place.ensures.value c.args.own.now) ∙ c.if-has_place.true)
    (elim c.else-is_served.branch [
      | else-is_served-via-then-is_served+else-not-is_full w ↦ served_not _ _ (inr (no_room _ (sym w.if-not-is_full.false ∙ w.is_full.ensures.value)))
      | else-is_served-via-else-is_served w ↦ served_not _ _ (inl (sym c.is_served.ensures ∙ w.if-is_served.false))
    ]))
    ∙ ap (λ (o : Option Request). with_refusal W (nat_lt (length c.args.self.now.waiting.items) 16)
    (nat_lt (length c.args.self.now.due.items) 16 && not (is_refusal_due W A (option_map request_by o))) (option_map request_by o) A) (sym c.in-Some.is))))

pub returns-else-request-own-clause-due : goal.returns-else-request-own-clause-due
returns-else-request-own-clause-due c =
    let W = who_of nothing c.args.own.now in
    let r = request_by c.in-Some.request in
    let A = map (refusal_by W) c.args.self.now.due.items in
    sym (ap (λ (o : Option Request). with_refusal W (nat_lt (length c.args.self.now.waiting.items) 16)
    (nat_lt (length c.args.self.now.due.items) 16 && not (is_refusal_due W A (option_map request_by o))) (option_map request_by o) A) c.in-Some.is
    ∙ not_refused W (nat_lt (length c.args.self.now.waiting.items) 16) (nat_lt (length c.args.self.now.due.items) 16 && not (is_refusal_due W A (Some r))) r A
    (elim c.else-request-own.branch [
      | else-request-own-via-then-request-own+else-has_place w ↦ inr
          (place_by W _ c.has_place-has_place.result c.refusal-answer.result r A c.refusal-answer.ensures (c.has_place-has_place.ensures.value c.args.own.now) ∙ w.if-has_place.false)
      | else-request-own-via-else-request-own w ↦ inl w.if-request-own.false
    ]))
