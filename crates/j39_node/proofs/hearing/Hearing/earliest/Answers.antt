use Rattle.j39_node.proofs.Common.{◌+◌, ◌<◌, ◌∙◌, ◌≡◌, ◌≤◌, ap, arith, drop, earliest, expires, get_or, IfSome, length, length-map, map, Option, Some, sooner, subst, suc, sym, ℕ}
use Rattle.std.specs.Prelude.{◌^◌}
use Rattle.j39_node.specs.Boxes.{broadcast_by, in_box}
use Rattle.j39_node.specs.declared.hearing.Assembly.{Assembly}
use Rattle.j39_node.proofs.ListenLemmas.{at_place, drop_all, earliest_next, sooner_below, sooner_none, sooner_of}
use Rattle.j39_node.proofs.hearing.Hearing.earliest.Goals as goal

pub loop-heard-preserved : goal.loop-heard-preserved
loop-heard-preserved c =
    let items = c.args.self.now.current.items in
    let k = c.loop-heard.heard-index in
    let l = subst (λ ys. k < length ys) c.deref-heard-items.ensures.value c.loop-heard-test.true in
    let x = at_place in_box items c.heard-item.result k l (c.heard-item.is ∙ ap (λ ys. get_or ys k c.heard-item.result) c.deref-heard-items.ensures.value) in
    let e : c.expires.result ≡ expires (in_box c.heard-item.result) = c.expires.ensures.value ∙ ap (λ (h : Assembly). expires (broadcast_by h)) c.deref.ensures in
    let rest : Option ℕ = earliest (drop (suc k) (map in_box items)) in (
      ap (λ (j : ℕ). sooner c.sooner-found.result (earliest (drop j (map in_box items)))) (let z : k + 1 ≡ suc k = omega arith in z)
          ∙ (ap (λ (o : Option ℕ). sooner o rest) (c.sooner-found.ensures ∙ ap (λ (n : ℕ). sooner c.loop-heard.found (Some n)) e)
          ∙ (sooner_of c.loop-heard.found (Some (expires (in_box c.heard-item.result))) rest
          ∙ (ap (sooner c.loop-heard.found) (sym (earliest_next (map in_box items) (in_box c.heard-item.result) k x)) ∙ c.loop-heard.invariant.0))),
      subst (λ (o : Option ℕ). IfSome o (λ n. n < 2 ^ 60)) (sym c.sooner-found.ensures) (sooner_below c.loop-heard.found (Some c.expires.result) (2 ^ 60) c.loop-heard.invariant.1 c.expires.ensures.fits),
    )

pub returns-clause-value : goal.returns-clause-value
returns-clause-value c =
    let items = c.args.self.now.current.items in
    let m = length-map items in_box in
    let t = subst (λ ys. length ys ≤ c.loop-heard.heard-index) c.deref-heard-items.ensures.value c.loop-heard-test.false in
    sym (sooner_none c.loop-heard.found)
    ∙ (ap (λ ys. sooner c.loop-heard.found (earliest ys)) (sym (drop_all (map in_box items) c.loop-heard.heard-index (omega (arith, m, t)))) ∙ c.loop-heard.invariant.0)
