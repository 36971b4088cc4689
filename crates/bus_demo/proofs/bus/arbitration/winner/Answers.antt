-- At the end the best of the wishes so far is the best of all.
use Rattle.std.proofs.Common.{◌≡◌, length, subst, arith, Some}
use Rattle.std.specs.Option.{MatchOption}
use Rattle.bus_demo.specs.Arbitration.{IsLowestOf, NoneOf}
use Rattle.bus_demo.proofs.bus.arbitration.winner.Goals as goal

pub returns-clause-lowest : goal.returns-clause-lowest
returns-clause-lowest c =
    let at_end : c.loop-place.place ≡ length c.args.wishes.now = omega (arith, c.loop-place-test.false, c.loop-place.auto.place-end) in
    let best : c.loop-place.best ≡ Some (c.in_ok-place.place, c.in_ok-place._lowest) = c.in_ok-place.was in (
      c.in_ok-place._lowest,
      subst (λ n. IsLowestOf c.args.wishes.now n c.in_ok-place.place c.in_ok-place._lowest) at_end
          (subst (λ b. MatchOption b (NoneOf c.args.wishes.now c.loop-place.place) (λ best. IsLowestOf c.args.wishes.now c.loop-place.place best.0 best.1)) best c.loop-place.invariant),
    )
