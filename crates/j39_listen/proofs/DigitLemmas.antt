-- The digits of a number whose length is known.
use Rattle.std.proofs.Common.{◌≡◌, ◌<◌, ◌≤◌, ◌+◌, ◌-◌, ◌/◌, ◌%◌, ◌^◌, ℕ, [], ◌∷◌, ◌++◌, ap, arith, sym, ◌∙◌}
use Rattle.std.specs.Fmt.{decimal}
use Rattle.std.proofs.lemmas.Fmt.{decimal_digit, decimal_step}
use Rattle.j39_io.specs.Printing.{last_digits}
use Rattle.j39_io.proofs.PrintingLemmas.{last_digits_none, last_digits_step}

one : (n : ℕ) → n < 10 → decimal n ≡ last_digits 1 n
one n small =
    let same : n % 10 ≡ n = omega arith in
    decimal_digit n small ∙ ap (λ d. (48 + d) ∷ []) (sym same) ∙ ap (λ ds. ds ++ ((48 + n % 10) ∷ [])) (sym (last_digits_none 0 (n / 10) (omega arith))) ∙ sym (last_digits_step 1 n (omega arith))

more : (k n : ℕ) → 10 ≤ n → n < 2 ^ 64 → decimal (n / 10) ≡ last_digits k (n / 10) → decimal n ≡ last_digits (k + 1) n
more k n low high e =
    let less : k + 1 - 1 ≡ k = omega arith in
    decimal_step n low high ∙ ap (λ ds. ds ++ ((48 + n % 10) ∷ [])) (e ∙ ap (λ i. last_digits i (n / 10)) (sym less)) ∙ sym (last_digits_step (k + 1) n (omega arith))
