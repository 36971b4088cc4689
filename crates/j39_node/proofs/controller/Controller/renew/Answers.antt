use Rattle.j39_node.proofs.Common.{◌∙◌, ◌∷◌, ap, can_send, Draft, Is, latest, List, map, None, Option, Outgoing, pgn_raw, posted, refl, Renew, subst, sym, View, Who, ℕ}
use Rattle.j39_node.proofs.CallLemmas.{none_renewed, renewal, renews}
use Rattle.j39_node.proofs.controller.Controller.renew.Goals as goal

pub returns-in_err-place : goal.returns-in_err-place
returns-in_err-place c = λ w H h.
    let d : Draft = record { priority = c.args.priority; group = pgn_raw c.args.group; to = c.args.to; bytes = c.args.bytes.now } in
    subst (λ (r : Option ℕ). Is w (Renew d r ∷ H) c.args.self.now) (sym c.from_residual-in_err-place.ensures)
    (none_renewed w H c.args.self.now d h
    (sym (renewal w H c.args.self.now d c.in_ok-message.message _ None h (ap (λ (v : Who). can_send v d) (sym (ap (λ (v : View). v.who) h.shown)) ∙ c.in_ok-message.ensures.known.0 refl) c.in_ok-message.ensures.value
    (c.in_err-place.ensures.value ∙ ap (λ (xs : List Outgoing). latest (posted c.in_ok-message.message).1 c.args.self.now.taken 0 (map posted xs) None) c.as_slice.ensures.value))))

pub returns : goal.returns
returns c = λ w H h.
    let d : Draft = record { priority = c.args.priority; group = pgn_raw c.args.group; to = c.args.to; bytes = c.args.bytes.now } in
    renews w H c.args.self.now _ d c.in_ok-message.message _ c.in_ok-place.place c.renew.result h
    (ap (λ (v : Who). can_send v d) (sym (ap (λ (v : View). v.who) h.shown)) ∙ c.in_ok-message.ensures.known.0 refl) c.in_ok-message.ensures.value
    (c.in_ok-place.ensures.value ∙ ap (λ (xs : List Outgoing). latest (posted c.in_ok-message.message).1 c.args.self.now.taken 0 (map posted xs) None) c.as_slice.ensures.value)
    c.renew.ensures.renewed c.renew.ensures.none refl
