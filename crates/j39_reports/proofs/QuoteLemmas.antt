-- Bytes that stand in quotes alone, sought by the bits of blocks.
use Rattle.j39_reports.proofs.Common.{◌≡◌, ◌≤◌, ◌+◌, ◌*◌, ◌∙◌, ◌++◌, ◌∷◌, [], ℕ, Bool, true, false, cond, List, map, take, drop, take-append-drop, ap, ap₂, arith, refl, sym, ◌==◌, ◌||◌, list_any, mask_l, list_any-append, carriage_return, newline, quote, comma, is_special}
use Rattle.std.specs.Int.RustNames.{bit_or}
use Rattle.std.proofs.lemmas.Nat.{le_or_l, le_or_r}

pub no_bit : (a b c d : ℕ) → bit_or (bit_or (bit_or a b) c) d ≡ 0 → (a ≡ 0) × (b ≡ 0) × (c ≡ 0) × (d ≡ 0)
no_bit a b c d none =
    let abc : bit_or (bit_or a b) c ≤ bit_or (bit_or (bit_or a b) c) d = le_or_l (bit_or (bit_or a b) c) d in
    let ab : bit_or a b ≤ bit_or (bit_or a b) c = le_or_l (bit_or a b) c in
    let a_in : a ≤ bit_or a b = le_or_l a b in
    let b_in : b ≤ bit_or a b = le_or_r a b in
    let c_in : c ≤ bit_or (bit_or a b) c = le_or_r (bit_or a b) c in
    let d_in : d ≤ bit_or (bit_or (bit_or a b) c) d = le_or_r (bit_or (bit_or a b) c) d in
    (omega arith, omega arith, omega arith, omega arith)

pub unset : (b : Bool) (m : ℕ) → cond b 1 0 + 2 * m ≡ 0 → (b ≡ false) × (m ≡ 0)
unset true m e = absurd (omega arith)
unset false m e = (refl, omega arith)

pub none_special : (xs : List ℕ) → mask_l (map (λ b. b == comma) xs) ≡ 0 → mask_l (map (λ b. b == quote) xs) ≡ 0
    → mask_l (map (λ b. b == carriage_return) xs) ≡ 0 → mask_l (map (λ b. b == newline) xs) ≡ 0 → list_any is_special xs ≡ false
none_special [] commas quotes returns newlines = refl
none_special (x ∷ xs) commas quotes returns newlines =
    let a = unset (x == comma) _ commas in
    let b = unset (x == quote) _ quotes in
    let c = unset (x == carriage_return) _ returns in
    let d = unset (x == newline) _ newlines in
    ap₂ (λ (s t : Bool). s || t) (ap₂ (λ (s t : Bool). s || t) a.0 (ap₂ (λ (s t : Bool). s || t) b.0 (ap₂ (λ (s t : Bool). s || t) c.0 d.0)))
    (none_special xs a.1 b.1 c.1 d.1)

pub none_in_both : (rest block later : List ℕ) → block ≡ take 8 rest → later ≡ drop 8 rest → list_any is_special block ≡ false
    → list_any is_special later ≡ false → list_any is_special rest ≡ false
none_in_both rest block later front back first others =
    ap (list_any is_special) (sym (take-append-drop 8 rest) ∙ ap₂ (λ xs ys. xs ++ ys) (sym front) (sym back))
    ∙ list_any-append is_special block later ∙ ap₂ (λ (s t : Bool). s || t) first others
