use Rattle.j39_sessions.proofs.Common.{◌+◌, ◌<◌, ◌∙◌, ◌≡◌, ap, arith, drop, earliest, get_or, IfSome, in_box, length, limit_in, map, Option, session_in, Some, sooner, subst, suc, sym, ℕ}
use Rattle.std.specs.Prelude.{◌^◌}
use Rattle.j39_sessions.specs.declared.seat.Seat.{Seat}
use Rattle.j39_sessions.proofs.BoxLemmas.{at_place, earliest_next, sooner_below, sooner_of}
use Rattle.j39_sessions.proofs.sessions.Sessions.limit.Goals as goal

pub loop-seat-preserved : goal.loop-seat-preserved
loop-seat-preserved c =
    let items = c.args.self.now.current.items in
    let k = c.loop-seat.seat-index in
    let l = subst (λ ys. k < length ys) c.deref-seat-items.ensures.value c.loop-seat-test.true in
    let x = at_place in_box items c.seat-item.result k l (c.seat-item.is ∙ ap (λ ys. get_or ys k c.seat-item.result) c.deref-seat-items.ensures.value) in
    let e : c.limit.result ≡ limit_in (in_box c.seat-item.result) = c.limit.ensures.value ∙ ap (λ (h : Seat). limit_in (session_in h)) c.deref.ensures in
    let rest : Option ℕ = earliest (drop (suc k) (map in_box items)) in (
      ap (λ (j : ℕ). sooner c.sooner-found.result (earliest (drop j (map in_box items)))) (let z : k + 1 ≡ suc k = omega arith in z)
          ∙ (ap (λ (o : Option ℕ). sooner o rest) (c.sooner-found.ensures ∙ ap (λ (n : ℕ). sooner c.loop-seat.found (Some n)) e)
          ∙ (sooner_of c.loop-seat.found (Some (limit_in (in_box c.seat-item.result))) rest
          ∙ (ap (sooner c.loop-seat.found) (sym (earliest_next (map in_box items) (in_box c.seat-item.result) k x)) ∙ c.loop-seat.invariant.0))),
      subst (λ (o : Option ℕ). IfSome o (λ n. n < 2 ^ 54)) (sym c.sooner-found.ensures) (sooner_below c.loop-seat.found (Some c.limit.result) (2 ^ 54) c.loop-seat.invariant.1 c.limit.ensures.fits),
    )
