use Rattle.j39_node.proofs.Common.{◌+◌, ◌∙◌, ◌≡◌, ap, arith, Bool, false, is_blank, List, map, past, posted, suc, sym, true}
use Rattle.j39_node.proofs.WithdrawLemmas.{mark_of, none_past, past_next, stops_at}
use Rattle.j39_node.proofs.outgoing.past.Goals as goal

pub loop-place-preserved : goal.loop-place-preserved
loop-place-preserved c =
    let bs : List Bool = map is_blank (map posted c.args.outgoing.now) in
    c.loop-place.invariant
    ∙ (sym (past_next bs c.loop-place.place (mark_of c.args.outgoing.now c.loop-place.place _ true c.index-outgoing-place.is c.loop-place-test.true (sym c.if-is_blank.true ∙ c.is_blank.ensures)))
    ∙ ap (past bs) (let z : suc c.loop-place.place ≡ c.loop-place.place + 1 = omega arith in z))

pub returns-else-is_blank : goal.returns-else-is_blank
returns-else-is_blank c =
    let bs : List Bool = map is_blank (map posted c.args.outgoing.now) in
    let m = mark_of c.args.outgoing.now c.loop-place.place _ false c.index-outgoing-place.is c.loop-place-test.true (sym c.if-is_blank.false ∙ c.is_blank.ensures) in
    sym (c.loop-place.invariant ∙ stops_at bs c.loop-place.place (λ e. absurd (cc)))

pub returns-after-loop-place : goal.returns-after-loop-place
returns-after-loop-place c =
    sym (c.loop-place.invariant ∙ stops_at (map is_blank (map posted c.args.outgoing.now)) c.loop-place.place (none_past c.args.outgoing.now c.loop-place.place c.loop-place-test.false))
