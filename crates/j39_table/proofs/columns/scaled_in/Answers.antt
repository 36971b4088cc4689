-- A sign, and the magnitude behind it.
use Rattle.std.proofs.Common.{◌≡◌, ◌<◌, ◌^◌, ℤ, ◌∙◌, ap, sym, arith, rules, unsigned_abs, to_z, of_z, w64}
use Rattle.std.specs.Int.{is_negative}
use Rattle.std.proofs.lemmas.Bool.{false≢true}
use Rattle.std.proofs.lemmas.Slice.Eq.{bytes_eq-Decides}
use Rattle.j39_groups.specs.ValueText.{magnitude_text, scaled_text}
use Rattle.j39_table.proofs.ColumnLemmas.{magnitude_unsigned}
use Rattle.j39_table.proofs.columns.scaled_in.Goals as goal

pub returns-in_err-magnitude-clause-only : goal.returns-in_err-magnitude-clause-only
returns-in_err-magnitude-clause-only c =
    rw c.from_residual.ensures (λ n places few fits is.
    let m = unsigned_abs n in
    let m_fits : m < 2 ^ 64 = omega (arith, fits) in
    let sign = c.sign_of-is_negative.ensures (is_negative n) (magnitude_text places m) (magnitude_unsigned places m m_fits) is in
    absurd (c.in_err-magnitude.ensures.only m places few m_fits sign.1))

pub returns-in_err-value-clause-only : goal.returns-in_err-value-clause-only
returns-in_err-value-clause-only c =
    rw c.from_residual-in_err-value.ensures (λ n places few fits is.
    let m = unsigned_abs n in
    let m_fits : m < 2 ^ 64 = omega (arith, fits) in
    let sign = c.sign_of-is_negative.ensures (is_negative n) (magnitude_text places m) (magnitude_unsigned places m m_fits) is in
    let read = c.in_ok-magnitude.ensures.only m places few m_fits sign.1 in
    absurd (c.in_err-value.ensures n sign.0 read.0 fits))

pub returns-then-eq-clause-only : goal.returns-then-eq-clause-only
returns-then-eq-clause-only c = λ n places few fits is.
    let m = unsigned_abs n in
    let m_fits : m < 2 ^ 64 = omega (arith, fits) in
    let sign = c.sign_of-is_negative.ensures (is_negative n) (magnitude_text places m) (magnitude_unsigned places m m_fits) is in
    let read = c.in_ok-magnitude.ensures.only m places few m_fits sign.1 in
    let back : to_z w64 (of_z w64 c.in_ok-value.value) ≡ c.in_ok-value.value = search rules in
    (back ∙ c.in_ok-value.ensures n sign.0 read.0 fits, read.1)

pub returns-else-eq-clause-only : goal.returns-else-eq-clause-only
returns-else-eq-clause-only c = λ n places few fits is.
    let m = unsigned_abs n in
    let m_fits : m < 2 ^ 64 = omega (arith, fits) in
    let sign = c.sign_of-is_negative.ensures (is_negative n) (magnitude_text places m) (magnitude_unsigned places m m_fits) is in
    let read = c.in_ok-magnitude.ensures.only m places few m_fits sign.1 in
    let back : to_z w64 (of_z w64 c.in_ok-value.value) ≡ c.in_ok-value.value = search rules in
    let value = back ∙ c.in_ok-value.ensures n sign.0 read.0 fits in
    let printed : c.as_slice.result.now ≡ c.args.text.now =
    c.as_slice.ensures.value ∙ c.scaled_text.ensures.items ∙ ap (λ (z : ℤ). scaled_text c.in_ok-magnitude.places z) value ∙ ap (λ p. scaled_text p n) read.1 ∙ sym is in
    false≢true (c.if-eq.ensures ∙ (bytes_eq-Decides _ _).1 printed)
