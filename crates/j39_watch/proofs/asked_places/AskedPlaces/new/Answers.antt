-- A place more.
use Rattle.j39_watch.proofs.Common.{◌∙◌, arith, first_stamp, refl}
use Rattle.std.proofs.lemmas.List.{length-set}
use Rattle.j39_watch.proofs.AskedLemmas.{asked_more, shown_where}
use Rattle.j39_watch.proofs.asked_places.AskedPlaces.new.Goals as goal

pub loop-address-init : goal.loop-address-init
loop-address-init c = (refl, λ which F chosen a below. absurd (omega (arith, below)))

pub loop-address-preserved : goal.loop-address-preserved
loop-address-preserved c = (
  length-set c.loop-address.are_asked c.loop-address.address c.is_asked.result ∙ c.loop-address.invariant.0,
  λ which F chosen a below.
      asked_more which (first_stamp F) c.args.places.now c.loop-address.are_asked c.loop-address.address c.is_asked.result
      (let all = c.loop-address.invariant.0 in omega (arith, all, c.loop-address-test.true))
      (c.loop-address.invariant.1 which F chosen) (c.is_asked.ensures which F chosen) a below,
)

pub returns : goal.returns
returns c = λ which F chosen a below.
    shown_where which (first_stamp F) c.args.places.now c.loop-address.are_asked a
    (c.loop-address.invariant.1 which F chosen a (omega (arith, below, c.loop-address-test.false)))
