-- The digits of numbers.
use Rattle.std.proofs.Common.{div-le_self, ◌≡◌, ◌<◌, ◌≤◌, ◌+◌, ◌-◌, ◌*◌, ◌/◌, ◌%◌, ◌^◌, ℕ, List, zero, suc, [], ◌∷◌, ◌++◌, length, refl, ap, ◌∙◌, sym, arith, append-nil, append_assoc}
use Rattle.std.proofs.lemmas.Grind.{pow_more}
use Rattle.std.proofs.lemmas.Fmt.{length-decimal-le}
use Rattle.std.proofs.Math.Nat.{div-div-eq-div-mul}
use Rattle.std.specs.Fmt.{decimal}
use Rattle.std.specs.Prelude.{codes}
use Rattle.std.specs.List.{flat_map}
use Rattle.j39_io.specs.Printing.{last_digits}
use Rattle.j39_groups.specs.ValueText.{magnitude_text}

pub decimal_short : (n : ℕ) → n < 2 ^ 64 → length (decimal n) ≤ 20
decimal_short n h = length-decimal-le 20 n (omega arith) (omega arith) h

pub decimal_ten : (n : ℕ) → n < 2 ^ 32 → length (decimal n) ≤ 10
decimal_ten n h = length-decimal-le 10 n (omega arith) (omega arith) (omega arith)

pub decimal_six : (n : ℕ) → n < 10 ^ 6 → length (decimal n) ≤ 6
decimal_six n h = length-decimal-le 6 n (omega arith) (omega arith) (omega arith)

pub magnitude_whole : (places magnitude : ℕ) → places ≡ 0 → magnitude_text places magnitude ≡ decimal magnitude
unfolding magnitude_text
magnitude_whole zero magnitude h = let whole : magnitude / 10 ^ 0 ≡ magnitude = omega arith in rw whole (append-nil (decimal magnitude))
magnitude_whole (suc more) magnitude h = absurd (omega arith)

rest : (more magnitude : ℕ) → magnitude / 10 ^ suc more ≡ magnitude / 10 / 10 ^ more
rest more magnitude =
    let next : suc more ≡ more + 1 = omega arith in
    let size : 10 ^ suc more ≡ 10 * 10 ^ more = ap (λ j. 10 ^ j) next ∙ (let p = pow_more 10 more in omega (arith, p)) in
    ap (λ k. magnitude / k) size ∙ sym (div-div-eq-div-mul magnitude 10 (10 ^ more))

-- the point comes before the first of the places
pub magnitude_first : (places magnitude : ℕ) → places ≡ 1
    → magnitude_text places magnitude ≡ decimal (magnitude / 10) ++ (codes "." ++ ((48 + magnitude % 10) ∷ []))
unfolding magnitude_text last_digits
magnitude_first zero magnitude h = absurd (omega arith)
magnitude_first (suc zero) magnitude h = let whole : magnitude / 10 ^ 1 ≡ magnitude / 10 = omega arith in rw whole refl
magnitude_first (suc (suc more)) magnitude h = absurd (omega arith)

pub magnitude_more : (places magnitude : ℕ) → 1 < places
    → magnitude_text places magnitude ≡ magnitude_text (places - 1) (magnitude / 10) ++ ((48 + magnitude % 10) ∷ [])
unfolding magnitude_text last_digits
magnitude_more zero magnitude h = absurd (omega arith)
magnitude_more (suc zero) magnitude h = absurd (omega arith)
magnitude_more (suc (suc more)) magnitude h =
    let before : suc (suc more) - 1 ≡ suc more = omega arith in
    rw (before, rest (suc more) magnitude) (simp append_assoc refl)

pub fewer : (more magnitude : ℕ) → magnitude / 10 ^ suc more ≡ magnitude / 10 / 10 ^ more
fewer = rest

pub less_by_places : (n k m : ℕ) → n < 2 ^ 64 → m ≡ n / 10 ^ k → m < 2 ^ 64
less_by_places n k m h e = let less : n / 10 ^ k ≤ n = div-le_self n (10 ^ k) in omega (arith, e, less)

-- the digits of the whole part, the point and the places
pub magnitude_pointed : (places magnitude : ℕ) → 0 < places
    → decimal (magnitude / 10 ^ places) ++ ((46 ∷ []) ++ last_digits places magnitude) ≡ magnitude_text places magnitude
unfolding magnitude_text
magnitude_pointed zero magnitude h = absurd (omega arith)
magnitude_pointed (suc more) magnitude h = refl

pub decimal_five : (n : ℕ) → n < 2 ^ 16 → length (decimal n) ≤ 5
decimal_five n h = length-decimal-le 5 n (omega arith) (omega arith) (omega arith)

-- the columns of a line and what stands behind each, joined
pub columns_joined : (a b c d e f g h space end : List ℕ)
    → a ++ space ++ b ++ space ++ c ++ space ++ d ++ space ++ (e ++ space ++ f ++ space ++ g) ++ space ++ h ++ end
    ≡ flat_map (λ (part : List ℕ). part) (a ∷ space ∷ b ∷ space ∷ c ∷ space ∷ d ∷ space ∷ e ∷ space ∷ f ∷ space ∷ g ∷ space ∷ h ∷ end ∷ [])
columns_joined a b c d e f g h space end = simp (append_assoc, append-nil) refl

pub spaced_joined : (text space unit : List ℕ) → text ++ space ++ unit ≡ flat_map (λ (part : List ℕ). part) (text ∷ space ∷ unit ∷ [])
spaced_joined text space unit = simp (append_assoc, append-nil) refl
