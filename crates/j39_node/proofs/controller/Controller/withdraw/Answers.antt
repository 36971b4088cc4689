use Rattle.j39_node.proofs.Common.{◌∙◌, ap, is_blank, List, map, Outgoing, past, place_of, posted, refl, sym}
use Rattle.j39_node.proofs.CallLemmas.{lost_keeps, none_at_place, withdraws}
use Rattle.j39_node.proofs.controller.Controller.withdraw.Goals as goal

pub returns-then-is_lost : goal.returns-then-is_lost
returns-then-is_lost c = λ w H h. lost_keeps w H c.args.self.now c.args.token h (sym c.is_lost.ensures ∙ c.if-is_lost.true)

pub returns-in-None : goal.returns-in-None
returns-in-None c = λ w H h.
    none_at_place w H c.args.self.now c.args.token h (sym c.is_lost.ensures ∙ c.if-is_lost.false)
    (c.in-None.ensures ∙ ap (λ (xs : List Outgoing). place_of c.args.self.now.taken c.args.token (map posted xs)) c.as_slice.ensures.value)

pub returns : goal.returns
returns c = λ w H h.
    withdraws w H c.args.self.now _ c.args.token c.in-Some.place c.blank.result c.renew.result h (sym c.is_lost.ensures ∙ c.if-is_lost.false) c.blank.ensures
    (c.in-Some.ensures ∙ ap (λ (xs : List Outgoing). place_of c.args.self.now.taken c.args.token (map posted xs)) c.as_slice.ensures.value)
    c.renew.ensures.renewed c.renew.ensures.none
    (c.past-self.ensures ∙ ap (λ (xs : List Outgoing). past (map is_blank (map posted xs)) c.args.self.now.taken) c.as_slice-2.ensures.value) refl
