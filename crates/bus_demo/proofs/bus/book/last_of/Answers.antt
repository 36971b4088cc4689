-- The place that was found has it, and none behind it.
use Rattle.std.proofs.Common.{◌≡◌, ◌<◌, ◌-◌, ◌∙◌, ℕ, arith, length, refl, rules, subst, suc, sym, true≢false}
use Rattle.std.proofs.lemmas.Option.{slice_get_read}
use Rattle.j39_transport.specs.ReceiverModel.{message_shown}
use Rattle.bus_demo.specs.Delivered.{IsNoneOf}
use Rattle.bus_demo.proofs.BookLemmas.{one_less}
use Rattle.bus_demo.proofs.bus.book.last_of.Goals as goal

pub returns-then-is_of-clause-last : goal.returns-then-is_of-clause-last
returns-then-is_of-clause-last c =
    let all = c.args.handed.now in
    let some : 0 < c.places.place = search rules in
    let next : c.places.place ≡ suc (c.places.place - 1) = omega (arith, some) in
    let inside : c.places.place - 1 < length all = omega (arith, some, c.places.invariant.0) in
    record {
      handed = c.index-handed-place.result;
      stands = slice_get_read all (length all) (c.places.place - 1) c.index-handed-place.result refl inside c.index-handed-place.is;
      is = c.is_of.ensures.0 c.if-is_of.true;
      last = subst (λ (n : ℕ). IsNoneOf (message_shown c.args.delivered.now) all n) next c.places.invariant.1;
    }

pub places-preserved : goal.places-preserved
places-preserved c =
    let all = c.args.handed.now in
    let some : 0 < c.places.place = search rules in
    let next : c.places.place ≡ suc (c.places.place - 1) = omega (arith, some) in
    let inside : c.places.place - 1 < length all = omega (arith, some, c.places.invariant.0) in (
      omega (arith, some, c.places.invariant.0),
      one_less (message_shown c.args.delivered.now) all (c.places.place - 1) c.index-handed-place.result
          (slice_get_read all (length all) (c.places.place - 1) c.index-handed-place.result refl inside c.index-handed-place.is)
          (λ is. true≢false (sym (c.is_of.ensures.1 is) ∙ c.if-is_of.false))
          (subst (λ (n : ℕ). IsNoneOf (message_shown c.args.delivered.now) all n) next c.places.invariant.1),
    )
