-- A set of addresses, one more.
use Rattle.j39_survey.proofs.Common.{◌≡◌, ◌≢◌, ◌==◌, ◌||◌, ◌<◌, ◌/◌, ◌%◌, ◌^◌, ℕ, zero, suc, List, [], ◌∷◌, true, false, length, refl, sym, ap, ◌∙◌, get_or, inl, inr, arith, bit_or, bit_at, set, cases_eq, eq-eqb, ne_eqb, get_or-set_same, get_or-set_other}
use Rattle.std.proofs.lemmas.Nat.Bits.{bit_at_or, bit_at-pow_same, bit_at-pow_other, bit_at-lt, bit_at-zero}
use Rattle.j39_survey.specs.SurveyModels.{has_bit}

abbrev pub no_bits : List ℕ
no_bits = 0 ∷ 0 ∷ 0 ∷ 0 ∷ []

zero_at : (i : ℕ) → get_or no_bits i 0 ≡ 0
zero_at zero = refl
zero_at (suc zero) = refl
zero_at (suc (suc zero)) = refl
zero_at (suc (suc (suc zero))) = refl
zero_at (suc (suc (suc (suc i)))) = refl

-- no bit is set at first
pub none_set : (a : ℕ) → has_bit (get_or no_bits (a / 64) 0) (a % 64) ≡ false
none_set a = ap (λ w. has_bit w (a % 64)) (zero_at (a / 64)) ∙ ap (λ n. n == 1) (bit_at-zero (a % 64))

-- the bit at k is set, and no other is changed
bit_set : (word k : ℕ) → has_bit (bit_or word (2 ^ k)) k ≡ true
bit_set word k =
    let both = bit_at_or word (2 ^ k) k in
    let one = bit_at-pow_same k in
    let small = bit_at-lt word k in
    eq-eqb (bit_at (bit_or word (2 ^ k)) k) 1 (omega (arith, both, one, small))

bit_kept : (word k i : ℕ) → i ≢ k → has_bit (bit_or word (2 ^ k)) i ≡ has_bit word i
bit_kept word k i other =
    let both = bit_at_or word (2 ^ k) i in
    let none = bit_at-pow_other k i other in
    let same : bit_at (bit_or word (2 ^ k)) i ≡ bit_at word i = omega (arith, both, none) in
    ap (λ n. n == 1) same

-- the word of an address is changed at its bit
pub one_more : (words : List ℕ) (x a word : ℕ) → x / 64 < length words → word ≡ bit_or (get_or words (x / 64) 0) (2 ^ (x % 64))
    → has_bit (get_or (set words (x / 64) word) (a / 64) 0) (a % 64) ≡ (a == x || has_bit (get_or words (a / 64) 0) (a % 64))
one_more words x a word within is =
    elim (cases_eq (a / 64) (x / 64)) [
      | inl w ↦
          let here : get_or (set words (x / 64) word) (a / 64) 0 ≡ word =
          ap (λ k. get_or (set words (x / 64) word) k 0) w ∙ get_or-set_same words (x / 64) word 0 within in
          elim (cases_eq (a % 64) (x % 64)) [
            | inl b ↦
                let same : a ≡ x = omega arith in
                let bit : has_bit word (a % 64) ≡ true =
                ap (λ k. has_bit word k) b ∙ ap (λ n. has_bit n (x % 64)) is ∙ bit_set (get_or words (x / 64) 0) (x % 64) in
                ap (λ n. has_bit n (a % 64)) here ∙ bit ∙ sym (ap (λ t. t || has_bit (get_or words (a / 64) 0) (a % 64)) (eq-eqb a x same))
            | inr b ↦
                let other : a ≢ x = λ e. b (ap (λ n. n % 64) e) in
                let bit : has_bit word (a % 64) ≡ has_bit (get_or words (x / 64) 0) (a % 64) =
                ap (λ n. has_bit n (a % 64)) is ∙ bit_kept (get_or words (x / 64) 0) (x % 64) (a % 64) b in
                ap (λ n. has_bit n (a % 64)) here ∙ bit ∙ ap (λ k. has_bit (get_or words k 0) (a % 64)) (sym w)
                ∙ sym (ap (λ t. t || has_bit (get_or words (a / 64) 0) (a % 64)) (ne_eqb a x other))
          ]
      | inr w ↦
          let other : a ≢ x = λ e. w (ap (λ n. n / 64) e) in
          ap (λ n. has_bit n (a % 64)) (get_or-set_other words (x / 64) (a / 64) word 0 w)
          ∙ sym (ap (λ t. t || has_bit (get_or words (a / 64) 0) (a % 64)) (ne_eqb a x other))
    ]
