use Rattle.std.proofs.Common.{◌<◌, subst, sym}
use Rattle.std.specs.List.{AllByRecursion}
use Rattle.std.proofs.lemmas.Bool.{OnTrue_at}
use Rattle.j39_log.proofs.LaneLemmas.{decoded_8, digits_of}
use Rattle.j39_log.proofs.fast.lanes.four.Goals as goal

pub returns-clause-some : goal.returns-clause-some
returns-clause-some c =
    decoded_8 c.args.digits.now c.hex_values-value.result c.told-digits c.fits-digits c.hex_values-value.ensures (OnTrue_at c.if-not-are_below.false c.are_below.ensures.so)

pub returns-then-not-are_below-clause-none : goal.returns-then-not-are_below-clause-none
returns-then-not-are_below-clause-none c = λ e bytes read.
    let yes = c.are_below.ensures.no (subst (AllByRecursion (λ x. x < 16)) (sym c.hex_values-value.ensures) (digits_of c.args.digits.now bytes c.fits-digits read)) in
    absurd (cc (yes, c.if-not-are_below.true))
