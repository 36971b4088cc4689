-- A byte that is no digit ends the number, and so does a digit too many.
use Rattle.std.proofs.Common.{◌≡◌, ◌<◌, ◌+◌, ◌*◌, ◌∙◌, ap, length, get_or, arith, subst, refl, take_all}
use Rattle.std.specs.Char.{digit_value}
use Rattle.std.specs.Str.Parse.{digits_value}
use Rattle.std.proofs.lemmas.Int.Digits.{digits_more, digits_value_more}
use Rattle.std.proofs.lemmas.Str.Parse.{digits_value-take-le}
use Rattle.j39_io.proofs.DigitLemmas.{digit_below}
use Rattle.j39_io.proofs.digits.number.Goals as goal

pub returns-in_err-digit : goal.returns-in_err-digit
returns-in_err-digit c =
    rw c.from_residual.ensures
    (λ p. c.in_err-digit.ensures.value (rw c.from.ensures (digit_below c.args.radix c.args.digits.now c.loop-digit.digit-index p.0 (omega arith))))

pub returns-in_err-value : goal.returns-in_err-value
returns-in_err-value c =
    let xs = c.args.digits.now in
    let i = c.loop-digit.digit-index in
    let said = c.in_ok-digit.ensures.value in
    let next = digits_value_more c.args.radix xs i (omega arith) in
    let front = digits_value-take-le c.args.radix xs (i + 1) (omega arith) in
    let digit : c.in_ok-digit.digit ≡ digit_value (get_or xs i 0) = said.1 ∙ ap digit_value c.from.ensures in
    let kept = ap (λ v. v * c.args.radix) c.loop-digit.invariant.1 in
    rw c.from_residual-in_err-value.ensures (λ p. c.in_err-value.ensures (omega (arith, p.1, next, front, digit, kept)))

pub loop-digit-preserved : goal.loop-digit-preserved
loop-digit-preserved c =
    let xs = c.args.digits.now in
    let i = c.loop-digit.digit-index in
    let below : i < length xs = omega arith in
    let said = c.in_ok-digit.ensures.value in
    let small : digit_value (get_or xs i 0) < c.args.radix = subst (λ n. digit_value n < c.args.radix) c.from.ensures said.0 in (
      digits_more c.args.radix xs i below c.loop-digit.invariant.0 small,
      c.in_ok-value.ensures.1 ∙ rw (digits_value_more c.args.radix xs i below, ← c.loop-digit.invariant.1, said.1, c.from.ensures) refl,
      rw c.in_ok-value.ensures.1 c.in_ok-value.ensures.0,
    )

pub returns : goal.returns
returns c =
    let whole = take_all c.loop-digit.digit-index c.args.digits.now (omega arith) in
    let is = c.loop-digit.invariant.1 ∙ ap (digits_value c.args.radix) whole in
    ((rw whole at c.loop-digit.invariant.0, rw (← is) c.loop-digit.invariant.2), is)
