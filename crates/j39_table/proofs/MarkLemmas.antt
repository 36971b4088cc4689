-- Places with a mark: `s` and `u` end no other place.
use Rattle.std.proofs.Common.{◌≡◌, ◌<◌, ◌≤◌, ◌+◌, ◌-◌, ◌*◌, ◌/◌, ◌%◌, ◌==◌, ◌&&◌, ◌∙◌, ◌++◌, ◌⊎◌, inl, inr, ℕ, zero, suc, Bool, true, false, List, [], ◌∷◌, take, get_or, length, length-append, refl, sym, ap, arith, codes, decimal, eqb-true}
use Rattle.std.specs.Char.{digit_value}
use Rattle.std.specs.List.{AllByRecursion}
use Rattle.std.specs.Str.Parse.{AllDigits}
use Rattle.std.proofs.lemmas.Bool.{and_parts, cond_both}
use Rattle.std.proofs.lemmas.Fmt.{decimal_is_IsNumeral}
use Rattle.std.proofs.Math.Seq.{get_or-append_seam}
use Rattle.j39_groups.specs.Printed.{bits_end, bits_text, bytes_or_bits_text, mark, range_text}
use Rattle.j39_table.proofs.ColumnLemmas.{take_front}
use Rattle.j39_table.specs.Positions.{IsGoodBits, IsGoodPlace, IsPlainPlace, text_of_place, without_mark}
use Rattle.j39_table.specs.declared.position.Position.{Position}
use Rattle.j39_table.specs.declared.position.Position.TheVariants.{Bytes, Bits, Full, Part, Texts}

-- ---- a place is digits, points, dashes and stars

abbrev Low : List ℕ → Type 0
Low text = AllByRecursion (λ b. b < 115) text

low_at : (text : List ℕ) (k : ℕ) → Low text → get_or text k 0 < 115
low_at [] k low = omega arith
low_at (b ∷ text) zero low = low.0
low_at (b ∷ text) (suc k) low = low_at text k low.1

Low-append : (a b : List ℕ) → Low a → Low b → Low (a ++ b)
Low-append [] b one two = two
Low-append (x ∷ a) b one two = (one.0, Low-append a b one.1 two)

digit_low : (c : ℕ) → digit_value c < 10 → c < 115
digit_low c h = grind arith

Low-digits : (digits : List ℕ) → AllDigits 10 digits → Low digits
Low-digits [] all = tt
Low-digits (d ∷ digits) all = (digit_low d all.0, Low-digits digits all.1)

Low-decimal : (n : ℕ) → n ≤ 1000 → Low (decimal n)
Low-decimal n few = let numeral = decimal_is_IsNumeral n (omega (arith, few)) in Low-digits (decimal n) numeral.0.1

Low-range : (first last : ℕ) → first ≤ 1000 → last ≤ 1000 → Low (range_text first last)
Low-range first last one two =
    Low-append (decimal first) _ (Low-decimal first one)
    (cond_both (first == last) [] (codes "-" ++ decimal last) Low (λ e. tt) (λ e. (omega arith, Low-decimal last two)))

Low-bits : (byte low last : ℕ) → byte ≤ 255 → low ≤ 8 → last ≤ 40 → Low (bits_text byte low last)
Low-bits byte low last few bit ends =
    let front = Low-append (decimal byte) (codes ".") (Low-decimal byte (omega (arith, few))) (omega arith, tt) in
    cond_both (last / 8 == 0) (decimal byte ++ codes "." ++ range_text low (last + 1))
    (decimal byte ++ codes "." ++ decimal low ++ codes "-" ++ decimal (byte + last / 8) ++ codes "." ++ decimal (last % 8 + 1)) Low
    (λ e. Low-append _ (range_text low (last + 1)) front (Low-range low (last + 1) (omega (arith, bit)) (omega (arith, ends))))
    (λ e.
    Low-append _ (decimal (last % 8 + 1))
    (Low-append _ (codes ".")
    (Low-append _ (decimal (byte + last / 8))
    (Low-append _ (codes "-") (Low-append _ (decimal low) front (Low-decimal low (omega (arith, bit)))) (omega arith, tt))
    (Low-decimal (byte + last / 8) (omega (arith, few, ends)))) (omega arith, tt))
    (Low-decimal (last % 8 + 1) (omega arith)))

Low-place : (place : Position) → IsGoodPlace place → IsPlainPlace place → Low (text_of_place place)
Low-place (Bytes first last) good plain =
    let ordered = good.ordered in let ends = good.ends in Low-range first last (omega (arith, ordered, ends)) (omega (arith, ends))
Low-place (Bits byte low count) good plain =
    let ends = good.byte_ends in let bit = good.ends in let narrow = good.narrow in
    Low-bits byte low (bits_end low count) (omega (arith, ends)) bit (omega (arith, bit, narrow))
Low-place (Full byte low count is_signed) good plain = absurd plain
Low-place (Part part) good plain = let few = good.1 in (omega arith, Low-decimal part (omega (arith, few)))
Low-place (Texts byte) good plain = let few = good.1 in Low-append (decimal byte) (codes "-") (Low-decimal byte (omega (arith, few))) (omega arith, tt)

-- ---- a text's last byte

ends_in : (front : List ℕ) (b : ℕ) → get_or (front ++ (b ∷ [])) (length (front ++ (b ∷ [])) - 1) 0 ≡ b
ends_in front b =
    let len = length-append front (b ∷ []) in
    let at : length (front ++ (b ∷ [])) - 1 ≡ length front = omega (arith, len) in
    ap (λ k. get_or (front ++ (b ∷ [])) k 0) at ∙ get_or-append_seam front b [] 0

front_of : (front : List ℕ) (b : ℕ) → take (length (front ++ (b ∷ [])) - 1) (front ++ (b ∷ [])) ≡ front
front_of front b =
    let len = length-append front (b ∷ []) in
    let at : length (front ++ (b ∷ [])) - 1 ≡ length front = omega (arith, len) in
    ap (λ k. take k (front ++ (b ∷ []))) at ∙ take_front front (b ∷ [])

pub data Kind (place : Position) (text : List ℕ) : Type 0 where
  full : (byte low count : ℕ) (is_signed : Bool) → IsGoodBits byte low count → Full byte low count is_signed ≡ place
      → take (length text - 1) text ≡ bytes_or_bits_text byte low count → 0 < length text → get_or text (length text - 1) 0 ≡ mark is_signed → Kind place text
  unmarked : IsPlainPlace place → get_or text (length text - 1) 0 < 115 → Kind place text

pub signed_by : (is_signed : Bool) → mark is_signed ≡ 115 → is_signed ≡ true
signed_by true is = refl
signed_by false is = absurd (omega arith)

pub unsigned_by : (is_signed : Bool) → mark is_signed ≡ 117 → is_signed ≡ false
unsigned_by true is = absurd (omega arith)
unsigned_by false is = refl

pub marked_by : (is_signed : Bool) → (mark is_signed ≡ 115) ⊎ (mark is_signed ≡ 117)
marked_by true = inl refl
marked_by false = inr refl

low_end : (place : Position) (text : List ℕ) → IsGoodPlace place → IsPlainPlace place → text ≡ text_of_place place → get_or text (length text - 1) 0 < 115
low_end place text good plain is = rw is (low_at (text_of_place place) (length (text_of_place place) - 1) (Low-place place good plain))

pub kind_of : (place : Position) (text : List ℕ) → IsGoodPlace place → text ≡ text_of_place place → Kind place text
kind_of (Bytes first last) text good is = unmarked tt (low_end (Bytes first last) text good tt is)
kind_of (Bits byte low count) text good is = unmarked tt (low_end (Bits byte low count) text good tt is)
kind_of (Full byte low count is_signed) text good is =
    let front = bytes_or_bits_text byte low count in
    let len = ap length is ∙ length-append front (mark is_signed ∷ []) in
    full byte low count is_signed good refl (rw is (front_of front (mark is_signed))) (omega (arith, len)) (rw is (ends_in front (mark is_signed)))
kind_of (Part part) text good is = unmarked tt (low_end (Part part) text good tt is)
kind_of (Texts byte) text good is = unmarked tt (low_end (Texts byte) text good tt is)

-- ---- bits without their mark: whole bytes, or bits

pub data Without (byte low count : ℕ) (place : Position) : Type 0 where
  bytes : (last : ℕ) → place ≡ Bytes byte last → byte ≤ last → last < byte + 4 → low ≡ 1 → count ≡ 8 * (last - byte + 1) → Without byte low count place
  bits : place ≡ Bits byte low count → Without byte low count place

whole_bytes : (byte low count : ℕ) → IsGoodBits byte low count → (low == 1 && count % 8 == 0) ≡ true → Without byte low count (Bytes byte (byte + count / 8 - 1))
whole_bytes byte low count good e =
    let both = and_parts (low == 1) (count % 8 == 0) e in
    let whole = eqb-true _ _ both.1 in
    let some = good.some in let narrow = good.narrow in
    bytes (byte + count / 8 - 1) refl (omega (arith, whole, some)) (omega (arith, whole, some, narrow)) (eqb-true _ _ both.0) (omega (arith, whole, some))

pub without : (byte low count : ℕ) → IsGoodBits byte low count → Without byte low count (without_mark byte low count)
without byte low count good =
    cond_both (low == 1 && count % 8 == 0) (Bytes byte (byte + count / 8 - 1)) (Bits byte low count) (Without byte low count)
    (λ e. whole_bytes byte low count good e) (λ e. bits refl)

pub record IsSame (byte low count : ℕ) (place : Position) (text : List ℕ) : Type 0 where
  pub good : IsGoodPlace place
  pub plain : IsPlainPlace place
  pub text_is : text ≡ text_of_place place

same_bytes : (byte low count : ℕ) → IsGoodBits byte low count → (low == 1 && count % 8 == 0) ≡ true
    → IsSame byte low count (Bytes byte (byte + count / 8 - 1)) (range_text byte (byte + count / 8 - 1))
same_bytes byte low count good e =
    let both = and_parts (low == 1) (count % 8 == 0) e in
    let whole = eqb-true _ _ both.1 in let first = eqb-true _ _ both.0 in
    let some = good.some in let narrow = good.narrow in let starts = good.byte_starts in let ends = good.byte_ends in
    record {
      good = record { starts = starts; ordered = omega (arith, whole, some); narrow = omega (arith, whole, some, narrow); ends = omega (arith, whole, first, some, narrow, ends) };
      plain = tt;
      text_is = refl;
    }

pub same : (byte low count : ℕ) → IsGoodBits byte low count → IsSame byte low count (without_mark byte low count) (bytes_or_bits_text byte low count)
same byte low count good = elim (low == 1 && count % 8 == 0) as (λ b. (b ≡ (low == 1 && count % 8 == 0)) → IsSame byte low count (without_mark byte low count) (bytes_or_bits_text byte low count)) [
  | true ↦ λ e. rw (sym e) (same_bytes byte low count good (sym e))
  | false ↦ λ e. rw (sym e) (record { good = good; plain = tt; text_is = refl })
] refl
