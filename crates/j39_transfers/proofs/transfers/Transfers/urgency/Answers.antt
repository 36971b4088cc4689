use Rattle.j39_transfers.proofs.Common.{◌+◌, ◌<◌, ◌∙◌, ◌≡◌, ap, arith, drop, get_or, in_box, length, map, Option, urgency_in, urgency, refl, sooner, stamp_micros, subst, suc, sym, transfer_in, ℕ}
use Rattle.j39_transfers.specs.declared.running.Running.{Running}
use Rattle.j39_transfers.proofs.BoxLemmas.{soonest_next, sooner_of}
use Rattle.j39_transfers.proofs.transfers.Transfers.urgency.Goals as goal

pub loop-running-preserved : goal.loop-running-preserved
loop-running-preserved c =
    let now = stamp_micros c.args.now in
    let items = c.args.self.now.current.items in
    let k = c.loop-running.running-index in
    let b = c.running-item.result in
    let l = subst (λ ys. k < length ys) c.deref-running-items.ensures.value c.loop-running-test.true in
    let at = c.running-item.is ∙ ap (λ ys. get_or ys k b) c.deref-running-items.ensures.value in
    let e = c.urgency.ensures ∙ (ap (λ (h : Running). urgency_in now (transfer_in h)) c.deref.ensures ∙ ap (λ h. urgency_in now (in_box h)) at) in
    let rest : Option ℕ = urgency now (map in_box (drop (suc k) items)) in
    ap (λ (j : ℕ). sooner c.sooner-found.result (urgency now (map in_box (drop j items)))) (let z : k + 1 ≡ suc k = omega arith in z)
    ∙ (ap (λ (o : Option ℕ). sooner o rest) (c.sooner-found.ensures ∙ ap (sooner c.loop-running.found) e)
    ∙ (sooner_of c.loop-running.found (urgency_in now (in_box (get_or items k b))) rest
    ∙ (ap (sooner c.loop-running.found) (sym (soonest_next (urgency_in now) (urgency now) (λ x xs. refl) in_box items k b l)) ∙ c.loop-running.invariant)))
