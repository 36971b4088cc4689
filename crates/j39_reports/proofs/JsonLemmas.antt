-- Strings of JSON.
use Rattle.j39_reports.proofs.Common.{in_marks, ◌≡◌, ◌<◌, ◌≤◌, ◌∙◌, ◌++◌, ◌∷◌, [], ℕ, zero, suc, Bool, false, List, ap, ap₂, arith, drop, length, map, refl, sym, take, take-append-drop, ◌-◌, ◌==◌, ◌||◌, nat_lt, if◌then◌else◌, codes, flat_map, list_any, mask_l, IsAscii, or_parts, nat_tests, drop-drop, list_any-append, encode_upper, backslash, quote, space}
use Rattle.std.proofs.lemmas.Str.{IsUtf8-from_ascii, utf8_lossy-IsUtf8}
use Rattle.j39_reports.proofs.QuoteLemmas.{unset}
use Rattle.j39_reports.specs.Json.{is_marked}
use Rattle.j39_rows.specs.Json.{character_text, string_text}

-- a byte that isn't marked is printable
printable : (b : ℕ) → is_marked b ≡ false → b ≤ 0x7E
printable b unmarked =
    let below = (or_parts (nat_lt b space) _ unmarked).1 in
    let above : nat_lt 0x7E b ≡ false = (or_parts (nat_lt 0x7E b) _ below).0 in
    grind (arith, nat_tests, above)

-- and stands as it is
stands : (b : ℕ) → is_marked b ≡ false → character_text b ≡ b ∷ []
stands b unmarked =
    let parts = or_parts (nat_lt b space) _ unmarked in
    let others = or_parts (b == quote) _ ((or_parts (nat_lt 0x7E b) _ parts.1).1) in
    ap (λ (t : Bool). if t then codes "\\\"" else (if b == backslash then codes "\\\\" else (if nat_lt b space then codes "\\u00" ++ encode_upper (b ∷ []) else b ∷ []))) others.0
    ∙ ap (λ (t : Bool). if t then codes "\\\\" else (if nat_lt b space then codes "\\u00" ++ encode_upper (b ∷ []) else b ∷ [])) others.1
    ∙ ap (λ (t : Bool). if t then codes "\\u00" ++ encode_upper (b ∷ []) else b ∷ []) parts.0

ascii : (bs : List ℕ) → list_any is_marked bs ≡ false → IsAscii bs
ascii [] unmarked i = omega arith
ascii (b ∷ bs) unmarked zero =
    let small = printable b (or_parts (is_marked b) _ unmarked).0 in
    omega (arith, small)
ascii (b ∷ bs) unmarked (suc i) = ascii bs (or_parts (is_marked b) _ unmarked).1 i

all_stand : (bs : List ℕ) → list_any is_marked bs ≡ false → flat_map character_text bs ≡ bs
all_stand [] unmarked = refl
all_stand (b ∷ bs) unmarked =
    let parts = or_parts (is_marked b) _ unmarked in
    ap₂ (λ (xs ys : List ℕ). xs ++ ys) (stands b parts.0) (all_stand bs parts.1)

-- a block of which no bit is set
pub none_marked : (xs : List ℕ) → mask_l (map (λ b. nat_lt b space) xs) ≡ 0 → mask_l (map (λ b. nat_lt 0x7E b) xs) ≡ 0
    → mask_l (map (λ b. b == quote) xs) ≡ 0 → mask_l (map (λ b. b == backslash) xs) ≡ 0 → list_any is_marked xs ≡ false
none_marked [] below above quotes backslashes = refl
none_marked (x ∷ xs) below above quotes backslashes =
    let a = unset (nat_lt x space) _ below in
    let b = unset (nat_lt 0x7E x) _ above in
    let c = unset (x == quote) _ quotes in
    let d = unset (x == backslash) _ backslashes in
    ap₂ (λ (s t : Bool). s || t) (ap₂ (λ (s t : Bool). s || t) a.0 (ap₂ (λ (s t : Bool). s || t) b.0 (ap₂ (λ (s t : Bool). s || t) c.0 d.0)))
    (none_marked xs a.1 b.1 c.1 d.1)

-- what is behind the first bytes of a list that has none has none
none_behind : (k : ℕ) (xs : List ℕ) → list_any is_marked xs ≡ false → list_any is_marked (drop k xs) ≡ false
none_behind k xs none =
    (or_parts (list_any is_marked (take k xs)) _ (sym (list_any-append is_marked (take k xs) (drop k xs)) ∙ ap (list_any is_marked) (take-append-drop k xs) ∙ none)).1

pub none_in_all : (rest block later : List ℕ) → block ≡ take 8 rest → later ≡ drop 8 rest → list_any is_marked block ≡ false
    → list_any is_marked later ≡ false → list_any is_marked rest ≡ false
none_in_all rest block later front back first others =
    ap (list_any is_marked) (sym (take-append-drop 8 rest) ∙ ap₂ (λ xs ys. xs ++ ys) (sym front) (sym back))
    ∙ list_any-append is_marked block later ∙ ap₂ (λ (s t : Bool). s || t) first others

-- the last of a text are among its last eight
pub none_last : (text rest last : List ℕ) → 8 ≤ length text → length rest < 8 → rest ≡ drop (length text - length rest) text → last ≡ drop (length text - 8) text
    → list_any is_marked last ≡ false → list_any is_marked rest ≡ false
none_last text rest last long short is last_is none =
    let same : rest ≡ drop (8 - length rest) last =
    is ∙ ap (λ k. drop k text) (omega (arith, long, short)) ∙ sym (drop-drop (8 - length rest) (length text - 8) text) ∙ ap (drop (8 - length rest)) (sym last_is) in
    ap (list_any is_marked) same ∙ none_behind (8 - length rest) last none

pub plain_string : (bs : List ℕ) → list_any is_marked bs ≡ false → string_text bs ≡ in_marks bs
unfolding string_text
plain_string bs unmarked =
    ap (λ text. in_marks (flat_map character_text text)) (utf8_lossy-IsUtf8 bs (IsUtf8-from_ascii bs (ascii bs unmarked)))
    ∙ ap in_marks (all_stand bs unmarked)
