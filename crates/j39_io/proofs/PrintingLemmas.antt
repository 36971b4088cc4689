-- Digits and their texts.
use Rattle.std.proofs.Common.{◌≡◌, ◌<◌, ◌≤◌, ◌+◌, ◌-◌, ◌*◌, ◌/◌, ◌%◌, ◌^◌, ℕ, zero, suc, List, [], ◌∷◌, ◌++◌, length, take, get_or, refl, ap, ◌∙◌, arith, length-append}
use Rattle.std.proofs.lemmas.Grind.{common_steps, pow_more}
use Rattle.std.specs.Str.Parse.{AllDigits, digits_value}
use Rattle.std.specs.Char.{digit_value}
use Rattle.std.specs.Fmt.{decimal}
use Rattle.std.proofs.lemmas.Fmt.{decimal_step, decimal_digit}
use Rattle.std.proofs.lemmas.Int.Digits.{digits_push, digits_value_push}
use Rattle.hex.specs.Hex.{encode_with}
use Rattle.j39_io.specs.Printing.{last_digits}

pub last_digits_step : (count x : ℕ) → 0 < count → last_digits count x ≡ last_digits (count - 1) (x / 10) ++ ((48 + x % 10) ∷ [])
unfolding last_digits
last_digits_step zero x h = absurd (omega arith)
last_digits_step (suc count) x h = let e : suc count - 1 ≡ count = omega arith in rw e refl

pub length-last_digits : (count x : ℕ) → length (last_digits count x) ≡ count
unfolding last_digits
length-last_digits zero x = refl
length-last_digits (suc count) x = simp length-append (let e = length-last_digits count (x / 10) in omega arith)

-- the value of a digit's byte
digit_value-digit : (d : ℕ) → d < 10 → digit_value (48 + d) ≡ d
digit_value-digit d h = grind (arith, common_steps)

pub AllDigits-last_digits : (count x : ℕ) → AllDigits 10 (last_digits count x)
unfolding last_digits
AllDigits-last_digits zero x = tt
AllDigits-last_digits (suc count) x =
    let below : x % 10 < 10 = omega arith in
    let small : digit_value (48 + x % 10) < 10 = rw (digit_value-digit (x % 10) below) below in
    digits_push 10 (last_digits count (x / 10)) (48 + x % 10) (AllDigits-last_digits count (x / 10)) small

pub digits_value-last_digits : (count x : ℕ) → x < 10 ^ count → digits_value 10 (last_digits count x) ≡ x
unfolding last_digits
digits_value-last_digits zero x h = omega arith
digits_value-last_digits (suc count) x h =
    let below : x % 10 < 10 = omega arith in
    let next : suc count ≡ count + 1 = omega arith in
    let power : 10 ^ suc count ≡ 10 ^ count * 10 = ap (λ k. 10 ^ k) next ∙ pow_more 10 count in
    let small : x / 10 < 10 ^ count = omega (arith, power) in
    let rest : digits_value 10 (last_digits count (x / 10)) ≡ x / 10 = digits_value-last_digits count (x / 10) small in
    digits_value_push 10 (last_digits count (x / 10)) (48 + x % 10) ∙ rw (rest, digit_value-digit (x % 10) below) (omega arith)

pub encode_with_more : (t xs : List ℕ) (i : ℕ) → i < length xs
    → encode_with t (take (i + 1) xs) ≡ encode_with t (take i xs) ++ (get_or t (get_or xs i 0 / 16) 0 ∷ get_or t (get_or xs i 0 % 16) 0 ∷ [])
unfolding encode_with
encode_with_more t [] i h = absurd (omega arith)
encode_with_more t (x ∷ xs) zero h = refl
encode_with_more t (x ∷ xs) (suc i) h =
    let next : suc i + 1 ≡ suc (i + 1) = omega arith in
    let rest = encode_with_more t xs i (omega arith) in
    ap (λ n. encode_with t (take n (x ∷ xs))) next ∙ ap (λ r. get_or t (x / 16) 0 ∷ get_or t (x % 16) 0 ∷ r) rest

pub encode_with_none : (t : List ℕ) → encode_with t [] ≡ []
unfolding encode_with
encode_with_none t = refl

pub last_digits_none : (count x : ℕ) → count ≡ 0 → last_digits count x ≡ []
unfolding last_digits
last_digits_none count x h = rw h refl

-- a number of more than one digit, and of one
pub longer_decimal : (n : ℕ) → 10 ≤ n → n < 2 ^ 64 → length (decimal n) ≡ length (decimal (n / 10)) + 1
longer_decimal n h fits = ap length (decimal_step n h fits) ∙ simp length-append refl

pub shortest_decimal : (n : ℕ) → n < 10 → length (decimal n) ≡ 1
shortest_decimal n h = ap length (decimal_digit n h)
