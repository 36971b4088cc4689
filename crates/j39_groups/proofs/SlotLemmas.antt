-- The first that a list gives, and steps.
use Rattle.std.proofs.Common.{◌≡◌, ◌<◌, ◌≤◌, ◌+◌, ◌-◌, ◌*◌, ◌/◌, ◌^◌, ℕ, suc, List, [], ◌∷◌, ◌++◌, length, take, drop, get_or, refl, ap, ◌∙◌, sym, arith, take-append-drop, drop-cons}
use Rattle.std.specs.Prelude.{Option, Some, None, slice_get, Result, Ok, Err, OkIff, IsTrue}
use Rattle.std.specs.List.{filter_map}
use Rattle.std.specs.Result.{result_ok}
use Rattle.std.proofs.lemmas.List.{take_more}
use Rattle.std.proofs.lemmas.List.Elements.{filter_map-append}
use Rattle.std.proofs.lemmas.Grind.{pow_more}
use Rattle.std.proofs.Math.Nat.{lt-div-mul-add, mul-le-mul_left, one-le-pow, mul-div_left}
use Rattle.j39_groups.proofs.NumberLemmas.{pow-256-le}
use Rattle.j39_groups.specs.Ranges.{top_byte, is_valid}
use Rattle.std.proofs.lemmas.Bool.{leb-true}

pub first_found : {X Y : Type 0} (f : X → Option Y) (xs : List X) (i : ℕ) (d : X) (y : Y) → i < length xs
    → filter_map f (take i xs) ≡ [] → f (get_or xs i d) ≡ Some y → slice_get (filter_map f xs) 0 ≡ Some y
first_found f xs i d y below none here =
    let cut : xs ≡ take i xs ++ (get_or xs i d ∷ drop (suc i) xs) = sym (take-append-drop i xs) ∙ ap (λ ys. take i xs ++ ys) (drop-cons xs i d below) in
    let whole : filter_map f xs ≡ y ∷ filter_map f (drop (suc i) xs) =
    ap (filter_map f) cut ∙ filter_map-append f (take i xs) (get_or xs i d ∷ drop (suc i) xs) ∙ (rw (none, here) refl) in
    rw whole refl

pub none_more : {X Y : Type 0} (f : X → Option Y) (xs : List X) (i : ℕ) (d : X) → i < length xs
    → filter_map f (take i xs) ≡ [] → f (get_or xs i d) ≡ None → filter_map f (take (i + 1) xs) ≡ []
none_more f xs i d below none here =
    ap (filter_map f) (take_more xs i d below) ∙ filter_map-append f (take i xs) (get_or xs i d ∷ []) ∙ (rw (none, here) refl)

-- a valid raw number of at most four bytes fits 32 bits
pub valid_fits : (count raw : ℕ) → 0 < count → count ≤ 4 → IsTrue (is_valid (top_byte count raw)) → raw < 2 ^ 32
valid_fits count raw some narrow is_one =
    let valid = leb-true _ _ is_one in
    let next : count ≡ (count - 1) + 1 = omega arith in
    let size : 256 ^ count ≡ 256 ^ (count - 1) * 256 = ap (λ k. 256 ^ k) next ∙ pow_more 256 (count - 1) in
    let fits : 256 ^ count ≤ 2 ^ 32 = pow-256-le count narrow in
    let below : raw < raw / 256 ^ (count - 1) * 256 ^ (count - 1) + 256 ^ (count - 1) = lt-div-mul-add (one-le-pow (count - 1) 256 (omega arith)) in
    let most : 256 ^ (count - 1) * (raw / 256 ^ (count - 1)) ≤ 256 ^ (count - 1) * 0xFA = mul-le-mul_left (256 ^ (count - 1)) valid in
    omega (arith, size, fits, below, most)

pub steps_only : (n step distance : ℕ) → 0 < step → n * step ≡ distance → distance / step ≡ n
steps_only n step distance rises e = ap (λ k. k / step) (sym e) ∙ mul-div_left n rises

pub found_steps : {E : Type 0} (r : Result ℕ E) (o : Option ℕ) (q n : ℕ) → o ≡ result_ok r → OkIff r (q < 2 ^ 32) q → q ≡ n → n < 2 ^ 32 → o ≡ Some n
found_steps (Ok x) o q n is (small, same) e h = is ∙ ap Some (same ∙ e)
found_steps (Err x) o q n is big e h = absurd (big (omega arith))

abbrev or_zero : Option ℕ → ℕ
or_zero (Some n) = n
or_zero None = 0

pub some_same : (a b : ℕ) → Some a ≡ Some b → a ≡ b
some_same a b h = ap or_zero h
