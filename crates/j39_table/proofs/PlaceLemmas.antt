-- Places by their texts: a number at the front of a text, and what stands behind it.
use Rattle.std.proofs.Common.{◌≡◌, ◌<◌, ◌≤◌, ◌+◌, ◌-◌, ◌/◌, ◌%◌, ◌^◌, ◌==◌, ◌&&◌, ◌⊎◌, inl, inr, ℕ, true, false, List, [], ◌∷◌, ◌++◌, length, take, drop, get_or, take_all, codes, refl, sym, ap, subst, ◌∙◌, arith, decimal, append-nil}
use Rattle.std.specs.List.{prefix_len}
use Rattle.std.specs.Char.{digit_value}
use Rattle.std.specs.Str.Parse.{AllDigits, digits_value}
use Rattle.std.proofs.lemmas.Bool.{cond_both, eqb-true, false≢true}
use Rattle.std.proofs.lemmas.Fmt.{decimal_is_IsNumeral, decimal_nonempty, length-decimal-le}
use Rattle.j39_table.proofs.ColumnLemmas.{drop_front, take_front}
use Rattle.j39_groups.specs.Printed.{bits_end, bits_text, bytes_or_bits_text, mark, range_text}
use Rattle.j39_table.specs.declared.position.Position.{Position}
use Rattle.j39_table.specs.declared.position.Position.TheVariants.{Bytes, Bits, Full, Part, Texts}
use Rattle.j39_table.specs.Positions.{IsAfterDigits, IsGoodPlace, end_text, is_digit, text_of_place}

digit_is : (c : ℕ) → digit_value c < 10 → is_digit c ≡ true
digit_is c h = grind arith

-- digits before what is none
digits_prefix : (digits rest : List ℕ) → AllDigits 10 digits → IsAfterDigits rest → prefix_len is_digit (digits ++ rest) ≡ length digits
digits_prefix [] [] all after = refl
digits_prefix [] (b ∷ rest) all after = rw after refl
digits_prefix (d ∷ digits) rest all after = let more = digits_prefix digits rest all.1 after in rw (digit_is d all.0) (omega (arith, more))

-- a text that begins with a number, cut where its digits end
pub record Leads (text rest : List ℕ) (n k : ℕ) : Type 0 where
  pub digits : AllDigits 10 (take k text)
  pub value : digits_value 10 (take k text) ≡ n
  pub behind : drop k text ≡ rest

pub leads : (text rest : List ℕ) (n k : ℕ) → n < 2 ^ 64 → IsAfterDigits rest → text ≡ decimal n ++ rest → k ≡ prefix_len is_digit text → Leads text rest n k
leads text rest n k few after is at =
    let numeral = decimal_is_IsNumeral n few in
    let len : k ≡ length (decimal n) = at ∙ ap (prefix_len is_digit) is ∙ digits_prefix (decimal n) rest numeral.0.1 after in
    let front : take k text ≡ decimal n = ap (λ j. take j text) len ∙ ap (take (length (decimal n))) is ∙ take_front (decimal n) rest in
    record {
      digits = subst (AllDigits 10) (sym front) numeral.0.1;
      value = ap (digits_value 10) front ∙ numeral.1;
      behind = ap (λ j. drop j text) len ∙ ap (drop (length (decimal n))) is ∙ drop_front (decimal n) rest;
    }

pub leading : (text rest : List ℕ) (n k : ℕ) → n ≤ 255 → IsAfterDigits rest → text ≡ decimal n ++ rest → k ≡ prefix_len is_digit text → Leads text rest n k
leading text rest n k few = leads text rest n k (omega (arith, few))

pub alone : (n : ℕ) (text : List ℕ) → text ≡ decimal n → text ≡ decimal n ++ []
alone n text is = is ∙ sym (append-nil (decimal n))

pub short : (n : ℕ) → n ≤ 255 → length (decimal n) ≤ 3
short n few = length-decimal-le 3 n (omega arith) (omega arith) (omega arith)

pub not_empty : (n : ℕ) (text : List ℕ) → n ≤ 255 → text ≡ decimal n → 0 < length text
not_empty n text few is = let some = decimal_nonempty n (omega arith) in let same = ap length is in omega (arith, some, same)

-- bits end in the same byte or in another
pub end_cases : (byte last : ℕ)
    → ((last / 8 ≡ 0) × (end_text byte last ≡ decimal (last + 1) ++ [])) ⊎ (end_text byte last ≡ decimal (byte + last / 8) ++ (46 ∷ decimal (last % 8 + 1)))
end_cases byte last =
    elim (last / 8 == 0) as (λ b. (b ≡ (last / 8 == 0)) → ((last / 8 ≡ 0) × (end_text byte last ≡ decimal (last + 1) ++ [])) ⊎ (end_text byte last ≡ decimal (byte + last / 8) ++ (46 ∷ decimal (last % 8 + 1)))) [
      | true ↦ λ e. inl (eqb-true (last / 8) 0 (sym e), rw (sym e) (sym (append-nil (decimal (last + 1)))))
      | false ↦ λ e. inr (rw (sym e) refl)
    ] refl

-- what is behind the first byte of a text
pub tail_is : (text rest : List ℕ) (b : ℕ) → text ≡ b ∷ rest → take (length text - 1) (drop 1 text) ≡ rest
tail_is text rest b is =
    let len : length text - 1 ≡ length rest = (let same = ap length is in omega (arith, same)) in
    ap (λ j. take j (drop 1 text)) len ∙ ap (λ t. take (length rest) (drop 1 t)) is ∙ take_all (length rest) rest (omega arith)

-- ---- only a part's place begins with `*`

record Starts (text : List ℕ) : Type 0 where
  some : 0 < length text
  digit : is_digit (get_or text 0 0) ≡ true

digits_start : (digits : List ℕ) → 0 < length digits → AllDigits 10 digits → Starts digits
digits_start [] some all = absurd (omega arith)
digits_start (d ∷ digits) some all = record { some = some; digit = digit_is d all.0 }

Starts-decimal : (n : ℕ) → n ≤ 255 → Starts (decimal n)
Starts-decimal n few = let numeral = decimal_is_IsNumeral n (omega arith) in digits_start (decimal n) numeral.0.0 numeral.0.1

Starts-append : (a b : List ℕ) → Starts a → Starts (a ++ b)
Starts-append [] b h = let some = h.some in absurd (omega (arith, some))
Starts-append (x ∷ a) b h = record { some = omega arith; digit = h.digit }

Starts-no_star : (text other : List ℕ) → Starts other → text ≡ other → get_or text 0 0 ≡ 42 → ⊥
Starts-no_star text other h is star =
    let first : get_or other 0 0 ≡ 42 = ap (λ t. get_or t 0 0) (sym is) ∙ star in
    false≢true (sym (ap is_digit first) ∙ h.digit)

Starts-bits : (byte low last : ℕ) → byte ≤ 255 → Starts (bits_text byte low last)
Starts-bits byte low last few =
    let front = Starts-decimal byte few in
    let point = Starts-append (decimal byte) (codes ".") front in
    cond_both (last / 8 == 0) (decimal byte ++ codes "." ++ range_text low (last + 1))
    (decimal byte ++ codes "." ++ decimal low ++ codes "-" ++ decimal (byte + last / 8) ++ codes "." ++ decimal (last % 8 + 1)) Starts
    (λ e. Starts-append (decimal byte ++ codes ".") (range_text low (last + 1)) point)
    (λ e. Starts-append _ (decimal (last % 8 + 1)) (Starts-append _ (codes ".") (Starts-append _ (decimal (byte + last / 8)) (Starts-append _ (codes "-") (Starts-append _ (decimal low) point)))))

Starts-bytes_or_bits : (byte low count : ℕ) → byte ≤ 255 → Starts (bytes_or_bits_text byte low count)
Starts-bytes_or_bits byte low count few =
    cond_both (low == 1 && count % 8 == 0) (range_text byte (byte + count / 8 - 1)) (bits_text byte low (bits_end low count)) Starts
    (λ e. Starts-append (decimal byte) _ (Starts-decimal byte few)) (λ e. Starts-bits byte low (bits_end low count) few)

pub record IsPart (place : Position) (text : List ℕ) : Type 0 where
  pub part : ℕ
  pub few : part ≤ 255
  pub place_is : place ≡ Part part
  pub digits : take (length text - 1) (drop 1 text) ≡ decimal part

pub star_place : (place : Position) (text : List ℕ) → IsGoodPlace place → text ≡ text_of_place place → get_or text 0 0 ≡ 42 → IsPart place text
star_place (Bytes first last) text good is star =
    let narrow : first ≤ 255 = (let o = good.ordered in let e = good.ends in omega (arith, o, e)) in
    absurd (Starts-no_star text (range_text first last) (Starts-append (decimal first) _ (Starts-decimal first narrow)) is star)
star_place (Bits byte low count) text good is star =
    let narrow : byte ≤ 255 = (let e = good.byte_ends in omega (arith, e)) in
    absurd (Starts-no_star text (bits_text byte low (bits_end low count)) (Starts-bits byte low (bits_end low count) narrow) is star)
star_place (Full byte low count is_signed) text good is star =
    let narrow : byte ≤ 255 = (let e = good.byte_ends in omega (arith, e)) in
    absurd (Starts-no_star text (bytes_or_bits_text byte low count ++ mark is_signed ∷ [])
    (Starts-append (bytes_or_bits_text byte low count) (mark is_signed ∷ []) (Starts-bytes_or_bits byte low count narrow)) is star)
star_place (Part part) text good is star = record { part = part; few = good.1; place_is = refl; digits = tail_is text (decimal part) 42 is }
star_place (Texts byte) text good is star =
    absurd (Starts-no_star text (decimal byte ++ codes "-") (Starts-append (decimal byte) (codes "-") (Starts-decimal byte good.1)) is star)
