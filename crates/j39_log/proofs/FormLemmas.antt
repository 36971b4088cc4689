-- How far bytes lie outside of a form, lane by lane.
use Rattle.std.proofs.Common.{◌≡◌, ◌<◌, ◌≤◌, ◌+◌, ◌-◌, ◌%◌, ℕ, zero, suc, Bool, true, false, cond, ltb, List, [], ◌∷◌, ◌++◌, length, map, take, drop, replicate, get_or, bit_or, lit<, refl, sym, ap₂, ◌∙◌, arith, ltb-true, ltb-false}
use Rattle.std.specs.List.{AllByRecursion}
use Rattle.std.specs.Simd.Lanes.{zip2, sel_l, Each1}
use Rattle.std.specs.Str.Parse.{AllDigits}
use Rattle.std.proofs.lemmas.Simd.{length-zip2}
use Rattle.std.proofs.lemmas.Nat.{le_or_l, le_or_r}
use Rattle.j39_log.specs.Form.{over, rests}
use Rattle.j39_log.proofs.LaneLemmas.{below, same_test}
use Rattle.j39_log.proofs.StampLaneLemmas.{digits_of_lanes}

-- ---- a difference that stays at 0

stays : (b : Bool) (x m : ℕ) → ltb x m ≡ b → x < 256 → m < 256 → over (cond b m x) m ≡ x - m
stays true x m e fx fm = let l = ltb-true x m e in omega arith
stays false x m e fx fm = let l = ltb-false x m e in omega arith

pub over_below : (xs ys : List ℕ) → Each1 (λ a. a < 256) (zip2 over xs ys)
over_below [] ys = tt
over_below (x ∷ xs) [] = tt
over_below (x ∷ xs) (y ∷ ys) = (omega arith, over_below xs ys)

pub saturates : (xs ms : List ℕ) → Each1 (λ a. a < 256) xs → Each1 (λ a. a < 256) ms → zip2 over (sel_l (below xs ms) ms xs) ms ≡ zip2 (λ a b. a - b) xs ms
saturates [] ms fx fm = refl
saturates (x ∷ xs) [] fx fm = refl
saturates (x ∷ xs) (m ∷ ms) fx fm =
    rw (same_test (ltb x m)) (ap₂ (λ a rest. a ∷ rest) (stays (ltb x m) x m refl fx.0 fm.0) (saturates xs ms fx.1 fm.1))

pub hex_within : (n : ℕ) (xs : List ℕ) → length xs ≡ n → AllByRecursion (λ x. x ≡ 0) (zip2 (λ a b. a - b) xs (replicate n 15)) → AllByRecursion (λ v. v < 16) xs
hex_within n [] e h = tt
hex_within zero (x ∷ xs) e h = absurd (omega arith)
hex_within (suc n) (x ∷ xs) e h = (omega (arith, h.0), hex_within n xs (omega arith) h.1)

-- ---- no lane is set

each_zero : (v : List ℕ) → AllByRecursion (λ x. x < 1) v → AllByRecursion (λ x. x ≡ 0) v
each_zero [] h = tt
each_zero (x ∷ xs) h = (omega (arith, h.0), each_zero xs h.1)

zeros_left : (xs ys : List ℕ) → length ys ≡ length xs → AllByRecursion (λ x. x ≡ 0) (zip2 bit_or xs ys) → AllByRecursion (λ x. x ≡ 0) xs
zeros_left [] ys e h = tt
zeros_left (x ∷ xs) [] e h = absurd (omega arith)
zeros_left (x ∷ xs) (y ∷ ys) e h = (omega (arith, le_or_l x y, h.0), zeros_left xs ys (omega arith) h.1)

zeros_right : (xs ys : List ℕ) → length ys ≡ length xs → AllByRecursion (λ x. x ≡ 0) (zip2 bit_or xs ys) → AllByRecursion (λ x. x ≡ 0) ys
zeros_right [] [] e h = tt
zeros_right [] (y ∷ ys) e h = absurd (omega arith)
zeros_right (x ∷ xs) [] e h = tt
zeros_right (x ∷ xs) (y ∷ ys) e h = (omega (arith, le_or_r x y, h.0), zeros_right xs ys (omega arith) h.1)

pub zeros_of_three : (a b c : List ℕ) → length a ≡ 16 → length b ≡ 16 → length c ≡ 16 → AllByRecursion (λ x. x < 1) (zip2 bit_or (zip2 bit_or a b) c)
    → AllByRecursion (λ x. x ≡ 0) a × (AllByRecursion (λ x. x ≡ 0) b × AllByRecursion (λ x. x ≡ 0) c)
zeros_of_three a b c la lb lc small =
    let both = zip2 bit_or a b in
    let lboth : length both ≡ 16 = length-zip2 bit_or a b (la ∙ sym lb) ∙ la in
    let all = each_zero (zip2 bit_or both c) small in
    let front = zeros_left both c (lc ∙ sym lboth) all in
    (zeros_left a b (lb ∙ sym la) front, (zeros_right a b (lb ∙ sym la) front, zeros_right both c (lc ∙ sym lboth) all))

-- ---- what fits a form

pub each_below : (xs : List ℕ) → ((k : ℕ) → get_or xs k 0 < 256) → AllByRecursion (λ b. b < 256) xs
each_below [] h = tt
each_below (x ∷ xs) h = (h 0, each_below xs (λ k. h (suc k)))

pub below_at : (xs : List ℕ) → AllByRecursion (λ b. b < 256) xs → (k : ℕ) → get_or xs k 0 < 256
below_at [] h k = lit< tt
below_at (x ∷ xs) h zero = h.0
below_at (x ∷ xs) h (suc k) = below_at xs h.1 k

pub all_each : (xs : List ℕ) → Each1 (λ b. b < 256) xs → AllByRecursion (λ b. b < 256) xs
all_each [] h = tt
all_each (x ∷ xs) h = (h.0, all_each xs h.1)

pub all_taken : (n : ℕ) (xs : List ℕ) → AllByRecursion (λ b. b < 256) xs → AllByRecursion (λ b. b < 256) (take n xs)
all_taken zero xs h = tt
all_taken (suc n) [] h = tt
all_taken (suc n) (x ∷ xs) h = (h.0, all_taken n xs h.1)

pub all_dropped : (n : ℕ) (xs : List ℕ) → AllByRecursion (λ b. b < 256) xs → AllByRecursion (λ b. b < 256) (drop n xs)
all_dropped zero xs h = h
all_dropped (suc n) [] h = tt
all_dropped (suc n) (x ∷ xs) h = all_dropped n xs h.1

-- bytes that must stand as they stand
pub fixed : (n : ℕ) (xs ls more : List ℕ) → AllByRecursion (λ b. b < 256) xs → AllByRecursion (λ b. b < 256) ls → n ≤ length xs → n ≤ length ls
    → AllByRecursion (λ x. x ≡ 0) (rests xs ls (replicate n 0 ++ more)) → take n xs ≡ take n ls
fixed zero xs ls more fx fl lx ll h = refl
fixed (suc n) [] ls more fx fl lx ll h = absurd (omega arith)
fixed (suc n) (x ∷ xs) [] more fx fl lx ll h = absurd (omega arith)
fixed (suc n) (x ∷ xs) (l ∷ ls) more fx fl lx ll h =
    let same : x ≡ l = omega (arith, fx.0, fl.0, h.0) in
    ap₂ (λ y ys. y ∷ ys) same (fixed n xs ls more fx.1 fl.1 (omega arith) (omega arith) h.1)

small_digits : (n : ℕ) (xs ls more : List ℕ) → AllByRecursion (λ b. b < 256) xs → n ≤ length xs
    → AllByRecursion (λ x. x ≡ 0) (rests xs (replicate n 48 ++ ls) (replicate n 9 ++ more)) → AllByRecursion (λ d. d < 10) (map (λ b. (b + 208) % 256) (take n xs))
small_digits zero xs ls more fx lx h = tt
small_digits (suc n) [] ls more fx lx h = tt
small_digits (suc n) (x ∷ xs) ls more fx lx h = (omega (arith, h.0), small_digits n xs ls more fx.1 (omega arith) h.1)

-- digits
pub digit_lanes : (n : ℕ) (xs ls more : List ℕ) → AllByRecursion (λ b. b < 256) xs → n ≤ length xs
    → AllByRecursion (λ x. x ≡ 0) (rests xs (replicate n 48 ++ ls) (replicate n 9 ++ more)) → AllDigits 10 (take n xs)
digit_lanes n xs ls more fx lx h = digits_of_lanes (take n xs) (small_digits n xs ls more fx lx h) (all_taken n xs fx)

-- the lanes behind the first
pub rests_behind : (n : ℕ) (xs ls ms : List ℕ) → AllByRecursion (λ x. x ≡ 0) (rests xs ls ms) → n ≤ length xs → n ≤ length ls → n ≤ length ms
    → AllByRecursion (λ x. x ≡ 0) (rests (drop n xs) (drop n ls) (drop n ms))
rests_behind zero xs ls ms h lx ll lm = h
rests_behind (suc n) [] ls ms h lx ll lm = absurd (omega arith)
rests_behind (suc n) (x ∷ xs) [] ms h lx ll lm = absurd (omega arith)
rests_behind (suc n) (x ∷ xs) (l ∷ ls) [] h lx ll lm = absurd (omega arith)
rests_behind (suc n) (x ∷ xs) (l ∷ ls) (m ∷ ms) h lx ll lm = rests_behind n xs ls ms h.1 (omega arith) (omega arith) (omega arith)
