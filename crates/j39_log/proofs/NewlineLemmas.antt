-- Where the first newline stands.
use Rattle.std.proofs.Common.{◌≡◌, ◌≢◌, ◌<◌, ◌≤◌, ◌==◌, ◌-◌, ℕ, zero, suc, not, false, List, [], ◌∷◌, ◌++◌, length, take, drop, get_or, sym, ap, ◌∙◌, arith, take-append-drop, length-drop, take_all, refl}
use Rattle.std.specs.List.{prefix_len}
use Rattle.std.proofs.lemmas.Grind.{common_steps}
use Rattle.std.proofs.lemmas.Bool.{eqb-true, eqb-false, not-true, not-false}
use Rattle.std.proofs.lemmas.List.Elements.{recursion_from_All, All-from_get_or}
use Rattle.std.proofs.lemmas.List.Sums.{prefix_len_passes, prefix_len_stops}
use Rattle.j39_log.specs.Log.{HasNoNewline}
use Rattle.j39_log.specs.Newline.{TakesLine, is_no_newline}

abbrev pub line_len : List ℕ → ℕ
line_len bytes = prefix_len is_no_newline bytes

front_whole : (bytes : List ℕ) (n : ℕ) → n ≡ line_len bytes → HasNoNewline (take n bytes)
front_whole bytes n e =
    recursion_from_All (λ b. b ≢ 10) (take n bytes)
    (All-from_get_or (λ b. b ≢ 10) (take n bytes) 0 (λ i lt.
    let p = prefix_len_passes is_no_newline bytes i 0 in
    let below : i < line_len bytes = grind (arith, common_steps) in
    let at : get_or (take n bytes) i 0 ≡ get_or bytes i 0 = grind (arith, common_steps) in
    rw at (eqb-false _ 10 (not-true _ (p below)))))

pub no_newline : (bytes rest : List ℕ) (n : ℕ) → n ≡ line_len bytes → rest ≡ drop n bytes → length rest ≡ 0 → HasNoNewline bytes
no_newline bytes rest n e q none =
    let past : length bytes ≤ n = omega (arith, ap length q, length-drop n bytes) in
    rw (sym (take_all n bytes past)) (front_whole bytes n e)

get_or-drop_head : (bytes : List ℕ) (n b : ℕ) (later : List ℕ) → drop n bytes ≡ b ∷ later → get_or bytes n 0 ≡ b
get_or-drop_head [] zero b later h = cc
get_or-drop_head [] (suc n) b later h = cc
get_or-drop_head (x ∷ xs) zero b later h = cc
get_or-drop_head (x ∷ xs) (suc n) b later h = get_or-drop_head xs n b later h

pub takes_line : (bytes line rest later : List ℕ) (b n : ℕ) → n ≡ line_len bytes → line ≡ take n bytes → rest ≡ drop n bytes
    → rest ≡ b ∷ later → TakesLine bytes line later
takes_line bytes line rest later b n e p q r =
    let tail : drop n bytes ≡ b ∷ later = sym q ∙ r in
    let len : length bytes - n ≡ suc (length later) = sym (length-drop n bytes) ∙ ap length tail in
    let below : line_len bytes < length bytes = omega arith in
    let first : get_or bytes n 0 ≡ b = get_or-drop_head bytes n b later tail in
    let stop : not (get_or bytes n 0 == 10) ≡ false = rw e (prefix_len_stops is_no_newline bytes 0 below) in
    let newline : b ≡ 10 = sym first ∙ eqb-true _ 10 (not-false _ stop) in
    let split : bytes ≡ take n bytes ++ (b ∷ later) = sym (take-append-drop n bytes) ∙ ap (λ t. take n bytes ++ t) tail in
    record { whole = rw p (front_whole bytes n e); bytes_are = split ∙ rw (p, newline) refl }
