use Rattle.std.proofs.Common.{◌≡◌, ◌≤◌, ◌∙◌, Some, arith, length, sym, true≢false}
use borrow.Author.Count.{below_more, falls}
use Rattle.j39_memory_in_place.specs.ByOrigin.{pairs_of}
use Rattle.j39_frame.specs.Origin.{place_in}
use Rattle.j39_memory_in_place.proofs.PairLemmas.{nowhere}
use Rattle.j39_memory_in_place.proofs.by_origin.ByOrigin.search.Goals as goal

pub returns : goal.returns
returns g c =
    let all = c.args.self.now in
    let fits : all.count ≤ length all.origins = omega (arith, all.fits, all.origins_fit) in
    sym (nowhere all.origins all.values all.count c.args.origin fits all.held (λ i inside. c.loop-place.invariant i (omega (arith, inside))))

pub loop-place-init : goal.loop-place-init
loop-place-init g c = λ k below there. omega (arith, below)

pub loop-place-smaller : goal.loop-place-smaller
loop-place-smaller g c = falls c.args.self.now.count c.loop-place.place c.loop-place-test.true

pub loop-place-preserved : goal.loop-place-preserved
loop-place-preserved g c =
    let all = c.args.self.now in
    below_more (λ k. place_in (pairs_of all) c.args.origin ≡ Some k → ⊥) c.loop-place.place c.loop-place.invariant (λ there. true≢false (sym (c.stands_at.ensures.1 there) ∙ c.if-stands_at.false))

pub returns-then-stands_at : goal.returns-then-stands_at
returns-then-stands_at g c = sym (c.stands_at.ensures.0 c.if-stands_at.true)
