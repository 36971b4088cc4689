-- A field that no spreadsheet takes for a formula: what is written for its first byte needs no quotes.
use Rattle.std.proofs.Common.{◌≡◌, ◌++◌, ◌∷◌, ◌∙◌, ℕ, List, [], Bool, true, false, ap, append_assoc, codes, drop, inl, inr, length, refl, subst, sym, take}
use Rattle.std.specs.Prelude.{◌==◌, ◌&&◌, ◌||◌, if◌then◌else◌, not}
use Rattle.std.specs.List.{flat_map, list_any}
use Rattle.std.proofs.lemmas.Bool.{and_parts, cases_Bool, eqb-true, or_parts}
use Rattle.std.proofs.lemmas.Grind.{flat_map-append}
use Rattle.std.proofs.lemmas.List.Folds.{list_any-append}
use Rattle.hex.specs.Hex.{encode_upper, encode_with, upper_digits}
use Rattle.j39_io.specs.Chars.{quote}
use Rattle.j39_io.specs.Records.{as_field, behind_front, comma, escaped_front, field_text, in_quotes, is_formula, is_special, quoted_byte, without_formula}

-- one of the four bytes that a formula begins with
abbrev begins : ℕ → Bool
begins first = first == 0x3D || (first == 0x2B || (first == 0x2D || first == 0x40))

-- what holds of these four holds of each that a formula begins with
of_four : (P : ℕ → Type 0) (n : ℕ) → begins n ≡ true → P 0x3D → P 0x2B → P 0x2D → P 0x40 → P n
of_four P n is a b c d = elim (cases_Bool (n == 0x3D)) [
  | inl y ↦ subst P (sym (eqb-true _ _ y)) a
  | inr x ↦ elim (cases_Bool (n == 0x2B)) [
    | inl y ↦ subst P (sym (eqb-true _ _ y)) b
    | inr z ↦ elim (cases_Bool (n == 0x2D)) [
      | inl y ↦ subst P (sym (eqb-true _ _ y)) c
      | inr w ↦ subst P (sym (eqb-true _ _ (rw (x, z, w) at is))) d
    ]
  ]
]

pub front_is : (field rest : List ℕ) (first byte : ℕ) → field ≡ first ∷ rest → first ≡ byte → (length rest == 0) ≡ false → begins byte ≡ true
    → escaped_front field ≡ codes "\\x" ++ encode_upper (byte ∷ [])
unfolding is_formula escaped_front
front_is field rest first byte is is_byte some formula = rw is (rw is_byte (rw formula (rw some refl)))

escape_is_plain : (byte : ℕ) → begins byte ≡ true → list_any is_special (codes "\\x" ++ encode_upper (byte ∷ [])) ≡ false
unfolding encode_with
escape_is_plain byte is = of_four (λ b. list_any is_special (codes "\\x" ++ encode_upper (b ∷ [])) ≡ false) byte is refl refl refl refl

-- ---- the parts of a field

front_is_plain : (field : List ℕ) → list_any is_special (escaped_front field) ≡ false
unfolding escaped_front is_formula
front_is_plain [] = refl
front_is_plain (first ∷ rest) = elim (cases_Bool (is_formula (first ∷ rest))) [
  | inl formula ↦ rw formula (escape_is_plain first ((and_parts (begins first) (not (length rest == 0)) formula).0))
  | inr other ↦ rw other refl
]

stays : (bytes : List ℕ) → list_any is_special bytes ≡ false → flat_map quoted_byte bytes ≡ bytes
stays [] plain = refl
stays (b ∷ bytes) plain =
    let parts = or_parts (is_special b) (list_any is_special bytes) plain in
    let quote_is = or_parts (b == quote) _ ((or_parts (b == comma) _ (parts.0)).1) in
    rw (quote_is.0) (ap (λ t. b ∷ t) (stays bytes (parts.1)))

-- as it is
pub plain_field : (field : List ℕ) → list_any is_special (behind_front field) ≡ false → escaped_front field ++ behind_front field ≡ field_text field
unfolding field_text
plain_field field plain =
    let none : list_any is_special (without_formula field) ≡ false =
    list_any-append is_special (escaped_front field) (behind_front field) ∙ (rw (front_is_plain field) plain) in
    rw none refl

-- in quotes, of which the front has none
pub quoted_field : (field : List ℕ) → list_any is_special (behind_front field) ≡ true
    → codes "\"" ++ (escaped_front field ++ (flat_map quoted_byte (behind_front field) ++ codes "\"")) ≡ field_text field
unfolding field_text
quoted_field field special =
    let some : list_any is_special (without_formula field) ≡ true =
    list_any-append is_special (escaped_front field) (behind_front field) ∙ (rw (front_is_plain field) special) in
    let inside : flat_map quoted_byte (without_formula field) ≡ escaped_front field ++ flat_map quoted_byte (behind_front field) =
    flat_map-append quoted_byte (escaped_front field) (behind_front field)
    ∙ ap (λ t. t ++ flat_map quoted_byte (behind_front field)) (stays (escaped_front field) (front_is_plain field)) in
    rw some (ap (λ t. codes "\"" ++ t) (sym (append_assoc (escaped_front field) (flat_map quoted_byte (behind_front field)) (codes "\"")) ∙ ap (λ t. t ++ codes "\"") (sym inside)))
