-- The columns of a line, each by its printed text.
use Rattle.std.proofs.Common.{◌≡◌, ◌<◌, ◌≤◌, ◌+◌, ◌*◌, ◌/◌, ◌%◌, ◌^◌, ◌==◌, ◌++◌, ℕ, zero, suc, List, [], ◌∷◌, Bool, true, false, length, take, drop, refl, sym, ap, ◌∙◌, subst, arith, length-append}
use Rattle.std.specs.List.{AllByRecursion, prefix_len}
use Rattle.std.specs.Char.{digit_value}
use Rattle.std.specs.Fmt.{decimal}
use Rattle.std.specs.Str.Parse.{AllDigits, digits_value}
use Rattle.std.proofs.lemmas.Fmt.{decimal_is_IsNumeral}
use Rattle.std.proofs.lemmas.Grind.{common_steps, pow_more}
use Rattle.std.proofs.lemmas.List.Elements.{recursion_from_All, All-from_get_or}
use Rattle.std.proofs.lemmas.List.Sums.{prefix_len_passes}
use Rattle.std.proofs.Common.{mul_assoc, div-le_self}
use Rattle.std.proofs.lemmas.Int.Digits.{digits_value_push}
use Rattle.j39_io.specs.Printing.{last_digits}
use Rattle.j39_groups.proofs.TextLemmas.{fewer, magnitude_pointed, magnitude_whole}
use Rattle.j39_groups.specs.ValueText.{magnitude_text, places_text}
use Rattle.j39_io.proofs.PrintingLemmas.{AllDigits-last_digits, length-last_digits}
use Rattle.j39_table.specs.Columns.{IsUnsigned, is_not_point}

-- what passes before what does not
pub prefix_of : (p : ℕ → Bool) (front : List ℕ) (b : ℕ) (rest : List ℕ) → AllByRecursion (λ x. p x ≡ true) front → p b ≡ false
    → prefix_len p (front ++ (b ∷ rest)) ≡ length front
prefix_of p [] b rest all stops = rw stops refl
prefix_of p (x ∷ front) b rest all stops = let more = prefix_of p front b rest all.1 stops in rw all.0 (omega (arith, more))

pub take_front : (front rest : List ℕ) → take (length front) (front ++ rest) ≡ front
take_front [] rest = refl
take_front (x ∷ front) rest = ap (λ xs. x ∷ xs) (take_front front rest)

pub drop_front : (front rest : List ℕ) → drop (length front) (front ++ rest) ≡ rest
drop_front [] rest = refl
drop_front (x ∷ front) rest = drop_front front rest

front_passes : (p : ℕ → Bool) (xs : List ℕ) → AllByRecursion (λ x. p x ≡ true) (take (prefix_len p xs) xs)
front_passes p xs =
    recursion_from_All (λ x. p x ≡ true) (take (prefix_len p xs) xs)
    (All-from_get_or (λ x. p x ≡ true) (take (prefix_len p xs) xs) 0 (λ i lt. let e = prefix_len_passes p xs i 0 in grind (arith, common_steps)))

-- ---- numbers

pub decimal_number : (text : List ℕ) (n : ℕ) → n < 2 ^ 64 → text ≡ decimal n → AllDigits 10 text × (digits_value 10 text ≡ n)
decimal_number text n fits is =
    let numeral = decimal_is_IsNumeral n fits in
    (subst (AllDigits 10) (sym is) numeral.0.1, ap (digits_value 10) is ∙ numeral.1)

-- ---- numbers with places

digit_value-digit : (d : ℕ) → d < 10 → digit_value (48 + d) ≡ d
digit_value-digit d h = grind (arith, common_steps)

-- the whole part and the places are the magnitude
pub both_parts : (places m : ℕ) → m < 2 ^ 64 → digits_value 10 (decimal (m / 10 ^ places)) * 10 ^ places + digits_value 10 (last_digits places m) ≡ m
unfolding last_digits
both_parts zero m fits =
    let whole : m / 10 ^ 0 ≡ m = omega arith in
    let value = (decimal_is_IsNumeral m fits).1 in
    rw (whole, value) (omega arith)
both_parts (suc places) m fits =
    let next : suc places ≡ places + 1 = omega arith in
    let power : 10 ^ suc places ≡ 10 ^ places * 10 = ap (λ k. 10 ^ k) next ∙ pow_more 10 places in
    let cut : m / 10 ^ suc places ≡ m / 10 / 10 ^ places = fewer places m in
    let below : m % 10 < 10 = omega arith in
    let less : m / 10 < 2 ^ 64 = omega (arith, fits) in
    let before = both_parts places (m / 10) less in
    let w = digits_value 10 (decimal (m / 10 / 10 ^ places)) in
    let last = digits_value_push 10 (last_digits places (m / 10)) (48 + m % 10) in
    let digit = digit_value-digit (m % 10) below in
    let apart : w * (10 ^ places * 10) ≡ w * 10 ^ places * 10 = sym (mul_assoc w (10 ^ places) 10) in
    rw (cut, power) (omega (arith, before, last, digit, apart))

digit_no_point : (c : ℕ) → digit_value c < 10 → is_not_point c ≡ true
digit_no_point c h = grind arith

pub digits_no_point : (ds : List ℕ) → AllDigits 10 ds → AllByRecursion (λ c. is_not_point c ≡ true) ds
digits_no_point [] h = tt
digits_no_point (d ∷ ds) h = (digit_no_point d h.0, digits_no_point ds h.1)

pub all_pass : (p : ℕ → Bool) (xs : List ℕ) → AllByRecursion (λ x. p x ≡ true) xs → prefix_len p xs ≡ length xs
all_pass p [] h = refl
all_pass p (x ∷ xs) h = let more = all_pass p xs h.1 in rw h.0 (omega (arith, more))

-- a text with a point: its digits before and behind it
pub record Parts (whole part : List ℕ) (m places : ℕ) : Type 0 where
  pub len : length part ≡ places
  pub whole_digits : AllDigits 10 whole
  pub whole_fits : digits_value 10 whole < 2 ^ 64
  pub part_digits : AllDigits 10 part
  pub sum : digits_value 10 whole * 10 ^ places + digits_value 10 part ≡ m

-- where the point stands
point_at : (text : List ℕ) (places m : ℕ) → m < 2 ^ 64 → 0 < places → text ≡ magnitude_text places m
    → (prefix_len is_not_point text ≡ length (decimal (m / 10 ^ places))) × (text ≡ decimal (m / 10 ^ places) ++ (46 ∷ last_digits places m))
point_at text places m fits some is =
    let q = m / 10 ^ places in
    let q_fits : q < 2 ^ 64 = (let less : m / 10 ^ places ≤ m = div-le_self m (10 ^ places) in omega (arith, less, fits)) in
    let shape : text ≡ decimal q ++ (46 ∷ last_digits places m) = is ∙ sym (magnitude_pointed places m some) in
    (ap (prefix_len is_not_point) shape ∙ prefix_of is_not_point (decimal q) 46 (last_digits places m) (digits_no_point (decimal q) (decimal_is_IsNumeral q q_fits).0.1) refl, shape)

-- a text without a point is a whole number
pub whole_text : (text : List ℕ) (n m places : ℕ) → n ≡ prefix_len is_not_point text → length text ≤ n → m < 2 ^ 64 → text ≡ magnitude_text places m
    → (places ≡ 0) × (text ≡ decimal m)
whole_text text n m zero at past fits is = (refl, is ∙ magnitude_whole 0 m refl)
whole_text text n m (suc places) at past fits is =
    let p = point_at text (suc places) m fits (omega arith) is in
    let here = p.0 in
    let all = ap length p.1 ∙ length-append (decimal (m / 10 ^ suc places)) (46 ∷ last_digits (suc places) m) in
    absurd (omega (arith, here, all, at, past))

pub parts_of_text : (text whole part : List ℕ) (n m places : ℕ) → n ≡ prefix_len is_not_point text → n < length text → whole ≡ take n text → part ≡ drop 1 (drop n text)
    → m < 2 ^ 64 → text ≡ magnitude_text places m → Parts whole part m places
parts_of_text text whole part n m zero at inside w p fits is =
    let shape = is ∙ magnitude_whole 0 m refl in
    let all = all_pass is_not_point text (subst (AllByRecursion (λ c. is_not_point c ≡ true)) (sym shape) (digits_no_point (decimal m) (decimal_is_IsNumeral m fits).0.1)) in
    absurd (omega (arith, all, at, inside))
parts_of_text text whole part n m (suc places) at inside w p fits is =
    let k = suc places in
    let q = m / 10 ^ k in
    let q_fits : q < 2 ^ 64 = (let less : m / 10 ^ k ≤ m = div-le_self m (10 ^ k) in omega (arith, less, fits)) in
    let point = point_at text k m fits (omega arith) is in
    let len : n ≡ length (decimal q) = at ∙ point.0 in
    let front : whole ≡ decimal q = w ∙ ap (λ j. take j text) len ∙ ap (take (length (decimal q))) point.1 ∙ take_front (decimal q) (46 ∷ last_digits k m) in
    let back : part ≡ last_digits k m = p ∙ ap (drop 1) (ap (λ j. drop j text) len ∙ ap (drop (length (decimal q))) point.1 ∙ drop_front (decimal q) (46 ∷ last_digits k m)) in
    record {
      len = ap length back ∙ length-last_digits k m;
      whole_digits = subst (AllDigits 10) (sym front) (decimal_is_IsNumeral q q_fits).0.1;
      whole_fits = rw front (let value = (decimal_is_IsNumeral q q_fits).1 in omega (arith, value, q_fits));
      part_digits = subst (AllDigits 10) (sym back) (AllDigits-last_digits k m);
      sum = rw (front, back) (both_parts k m fits);
    }

digit_no_minus : (c : ℕ) → digit_value c < 10 → (c == 45) ≡ false
digit_no_minus c h = grind arith

digits_unsigned : (ds rest : List ℕ) → 0 < length ds → AllDigits 10 ds → IsUnsigned (ds ++ rest)
digits_unsigned [] rest some h = absurd (omega arith)
digits_unsigned (d ∷ ds) rest some h = digit_no_minus d h.0

-- a magnitude begins with a digit
pub magnitude_unsigned : (places m : ℕ) → m < 2 ^ 64 → IsUnsigned (magnitude_text places m)
unfolding magnitude_text
magnitude_unsigned places m fits =
    let q = m / 10 ^ places in
    let q_fits : q < 2 ^ 64 = (let less : m / 10 ^ places ≤ m = div-le_self m (10 ^ places) in omega (arith, less, fits)) in
    let numeral = decimal_is_IsNumeral q q_fits in
    digits_unsigned (decimal q) (places_text places m) numeral.0.0 numeral.0.1
