-- What the digits so far write fits, and each byte that is no digit ends it.
use Rattle.std.proofs.Common.{◌<◌, length, take, get_or, arith, subst, refl, take_all}
use Rattle.std.specs.Char.{digit_value}
use Rattle.std.proofs.lemmas.Int.Digits.{digits_more, digits_value_more, digits_value-lt}
use Rattle.j39_log.proofs.TextLemmas.{number_fits, digit_below}
use Rattle.j39_log.proofs.text.number.Goals as goal

pub returns-in_err-digit-clause-value : goal.returns-in_err-digit-clause-value
returns-in_err-digit-clause-value c =
    rw c.from_residual.ensures
    (λ all. c.in_err-digit.ensures.value (rw c.from.ensures (digit_below c.args.digits.now c.loop-digit.digit-index all (omega arith))))

pub overflow_mul-value : goal.overflow_mul-value
overflow_mul-value c =
    let fit = number_fits c.args.digits.now c.loop-digit.digit-index c.loop-digit.value c.requires (omega arith) c.loop-digit.invariant.0 c.loop-digit.invariant.1 in
    omega (arith, fit)

pub overflow_add-value : goal.overflow_add-value
overflow_add-value c =
    let fit = number_fits c.args.digits.now c.loop-digit.digit-index c.loop-digit.value c.requires (omega arith) c.loop-digit.invariant.0 c.loop-digit.invariant.1 in
    let small = c.in_ok-digit.ensures.value in
    omega (arith, fit, small.0, small.1)

pub loop-digit-preserved : goal.loop-digit-preserved
loop-digit-preserved c =
    let xs = c.args.digits.now in
    let i = c.loop-digit.digit-index in
    let below : i < length xs = omega arith in
    let said = c.in_ok-digit.ensures.value in
    let small : digit_value (get_or xs i 0) < 10 = subst (λ n. digit_value n < 10) c.from.ensures said.0 in (
      digits_more 10 xs i below c.loop-digit.invariant.0 small,
      rw (digits_value_more 10 xs i below, ← c.loop-digit.invariant.1, c.from-in-loop-digit.ensures, said.1, c.from.ensures) refl,
    )

pub returns-clause-fits : goal.returns-clause-fits
returns-clause-fits c =
    let whole = take_all c.loop-digit.digit-index c.args.digits.now (omega arith) in
    let lt = digits_value-lt 10 (take c.loop-digit.digit-index c.args.digits.now) c.loop-digit.invariant.0 in
    rw (c.loop-digit.invariant.1, whole) (rw whole at lt)
