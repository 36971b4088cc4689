-- What vectors compute, lane by lane.
use Rattle.std.proofs.Common.{◌≡◌, ◌<◌, ◌≤◌, ◌+◌, ◌-◌, ◌*◌, ◌%◌, ◌^◌, ℕ, zero, suc, Bool, true, false, cond, ltb, leb, nat_le, nat_eq, ◌||◌, List, [], ◌∷◌, length, map, replicate, get_or, bit_or, refl, sym, ap, ◌∙◌, arith, subst, Option, Some, None, unwrap_or, Result, Ok, w8, not, leb-true, ltb-true}
use Rattle.std.specs.List.{AllByRecursion, AllPass, range_with_len}
use Rattle.std.specs.Simd.Lanes.{zip2, sel_l, mask_l, top}
use Rattle.std.proofs.lemmas.Simd.{mask_l-mod, pick_l_whole, tops_compared, zip2_splat_left}
use Rattle.std.proofs.lemmas.Bool.{leb-false, agree_below_at}
use Rattle.std.proofs.lemmas.List.{length-map}
use Rattle.hex.specs.Hex.{is_hex_digit, hex_digit_value, digit_or_error, decode_pairs, decode_of, ◌>>=◌}
use Rattle.hex.proofs.HexLemmas.{decode_of-even, decode_of-ok}
use Rattle.hex.specs.declared.error.FromHexError.{FromHexError}
use Rattle.j39_log.specs.Lanes.{digit_lane, hex_lane, letter_lane, pair_at}

-- ---- tests

pub limit_mask : (n y : ℕ) (v : List ℕ) → length v ≡ n → n ≤ 64
    → mask_l (map (top 7) (zip2 (λ a b. cond (leb a b) 255 0) (replicate n y) v)) % 2 ^ 64 ≡ mask_l (map (leb y) v)
limit_mask n y v long few =
    ap (λ ms. mask_l ms % 2 ^ 64) (tops_compared w8 leb (replicate n y) v ∙ zip2_splat_left leb y n v long)
    ∙ mask_l-mod (map (leb y) v) 64 (simp length-map (omega arith))

no_bit : (b : Bool) (m : ℕ) → cond b 1 0 + 2 * m ≡ 0 → (b ≡ false) × (m ≡ 0)
no_bit true m h = absurd (omega arith)
no_bit false m h = (refl, omega arith)

pub none_set : (y : ℕ) (v : List ℕ) → mask_l (map (leb y) v) ≡ 0 → AllByRecursion (λ x. x < y) v
none_set y [] h = tt
none_set y (x ∷ xs) h =
    let both = no_bit (leb y x) (mask_l (map (leb y) xs)) h in
    (leb-false y x both.0, none_set y xs both.1)

no_bits : (b : Bool) (x y m : ℕ) → leb y x ≡ b → x < y → m ≡ 0 → cond b 1 0 + 2 * m ≡ 0
no_bits true x y m e h none = let l = leb-true y x e in absurd (omega (arith, l, h))
no_bits false x y m e h none = omega (arith, none)

pub all_below : (y : ℕ) (v : List ℕ) → AllByRecursion (λ x. x < y) v → mask_l (map (leb y) v) ≡ 0
all_below y [] h = refl
all_below y (x ∷ xs) h = no_bits (leb y x) x y (mask_l (map (leb y) xs)) refl h.0 (all_below y xs h.1)

-- ---- hex digits

pub same_test : (b : Bool) → leb 128 (cond b 255 0) ≡ b
same_test true = refl
same_test false = refl

-- whether each lane is below the one beside it
abbrev pub below : List ℕ → List ℕ → List Bool
below xs ys = map (top 7) (zip2 (λ a b. cond (ltb a b) 255 0) xs ys)

abbrev more : List ℕ → ℕ → ℕ → List ℕ
more xs n k = zip2 (λ a b. (a + b) % 256) xs (replicate n k)

abbrev digit_lanes : List ℕ → ℕ → List ℕ
digit_lanes xs n = more (sel_l (below (more xs n 198) (replicate n 6)) (replicate n 6) (more xs n 198)) n 10

abbrev from_a : List ℕ → ℕ → List ℕ
from_a xs n = zip2 (λ a b. (a + (256 - b)) % 256) (zip2 bit_or xs (replicate n 32)) (replicate n 97)

abbrev letter_lanes : List ℕ → ℕ → List ℕ
letter_lanes xs n = more (sel_l (below (from_a xs n) (replicate n 245)) (from_a xs n) (replicate n 245)) n 10

pub hex_lanes : (xs : List ℕ) (n : ℕ) → length xs ≡ n → sel_l (below (digit_lanes xs n) (letter_lanes xs n)) (digit_lanes xs n) (letter_lanes xs n) ≡ map hex_lane xs
hex_lanes [] n e = refl
hex_lanes (x ∷ xs) zero e = absurd (omega arith)
hex_lanes (x ∷ xs) (suc n) e =
    rw (same_test (ltb ((x + 198) % 256) 6), same_test (ltb ((bit_or x 32 + 159) % 256) 245), same_test (ltb (digit_lane x) (letter_lane x)))
    (ap (λ r. hex_lane x ∷ r) (hex_lanes xs n (omega arith)))

some_is : (o : Option ℕ) (v : ℕ) → (nat_le 16 v || nat_eq (unwrap_or o 99) v) ≡ true → v < 16 → o ≡ Some v
some_is (Some x) v h small = ap Some (grind arith)
some_is None v h small = absurd (grind arith)

lane_reads : (b : ℕ) → b < 256 → hex_lane b < 16 → hex_digit_value b ≡ Some (hex_lane b)
lane_reads b fits small =
    some_is (hex_digit_value b) (hex_lane b) (agree_below_at (λ b. nat_le 16 (hex_lane b) || nat_eq (unwrap_or (hex_digit_value b) 99) (hex_lane b)) (λ _. true) 256 b refl fits) small

-- the bytes of pairs of values, as vectors compute them
abbrev paired : List ℕ → List ℕ
paired [] = []
paired (a ∷ []) = []
paired (a ∷ b ∷ rest) = (a * 16 % 256 + b) % 256 ∷ paired rest

pair_reads : (a b i x y : ℕ) (o p : Option ℕ) (r : Result (List ℕ) FromHexError) (bs : List ℕ) → o ≡ Some x → p ≡ Some y → x < 16 → y < 16 → r ≡ Ok bs
    → ((digit_or_error a i o >>= λ h. digit_or_error b (i + 1) p >>= λ l. Ok (h * 16 + l)) >>= λ byte. r >>= λ bytes. Ok (byte ∷ bytes)) ≡ Ok ((x * 16 % 256 + y) % 256 ∷ bs)
pair_reads a b i x y o p r bs eo ep sx sy er =
    let byte : x * 16 + y ≡ (x * 16 % 256 + y) % 256 = omega arith in
    rw (eo, ep, er) (ap (λ n. Ok (n ∷ bs)) byte)

reads : (i : ℕ) (s : List ℕ) → length s % 2 ≡ 0 → ((k : ℕ) → get_or s k 0 < 256) → AllByRecursion (λ x. x < 16) (map hex_lane s)
    → decode_pairs i s ≡ Ok (paired (map hex_lane s))
unfolding decode_pairs
reads i [] even fits small = refl
reads i (a ∷ []) even fits small = absurd (omega arith)
reads i (a ∷ b ∷ rest) even fits small =
    pair_reads a b i (hex_lane a) (hex_lane b) (hex_digit_value a) (hex_digit_value b) (decode_pairs (i + 2) rest) (paired (map hex_lane rest))
    (lane_reads a (fits 0) small.0) (lane_reads b (fits 1) small.1.0) small.0 small.1.0 (reads (i + 2) rest (omega arith) (λ k. fits (suc (suc k))) small.1.1)

decoded : (s v : List ℕ) → length s % 2 ≡ 0 → ((k : ℕ) → get_or s k 0 < 256) → v ≡ map hex_lane s → AllByRecursion (λ x. x < 16) v → decode_of s ≡ Ok (paired v)
decoded s v even fits is small = decode_of-even s even ∙ reads 0 s even fits (rw is at small) ∙ ap (λ w. Ok (paired w)) (sym is)

pub decoded_8 : (s v : List ℕ) → length s ≡ 8 → ((k : ℕ) → get_or s k 0 < 256) → v ≡ map hex_lane s → AllByRecursion (λ x. x < 16) v
    → decode_of s ≡ Ok (map (pair_at 16 v) (range_with_len 0 4))
decoded_8 s v long fits is small =
    let len : length v ≡ 8 = ap length is ∙ (length-map s hex_lane ∙ long) in
    decoded s v (rw long refl) fits is small ∙ ap Ok (subst (λ w. paired w ≡ map (pair_at 16 w) (range_with_len 0 4)) (pick_l_whole 0 v 8 len) refl)

pub decoded_16 : (s v : List ℕ) → length s ≡ 16 → ((k : ℕ) → get_or s k 0 < 256) → v ≡ map hex_lane s → AllByRecursion (λ x. x < 16) v
    → decode_of s ≡ Ok (map (pair_at 16 v) (range_with_len 0 8))
decoded_16 s v long fits is small =
    let len : length v ≡ 16 = ap length is ∙ (length-map s hex_lane ∙ long) in
    decoded s v (rw long refl) fits is small ∙ ap Ok (subst (λ w. paired w ≡ map (pair_at 16 w) (range_with_len 0 8)) (pick_l_whole 0 v 16 len) refl)

-- ---- what writes bytes has digits alone

implied : (a b : Bool) → (not a || b) ≡ true → a ≡ true → b ≡ true
implied true b h e = h
implied false b h e = absurd (cc)

digit_lane_of : (b : ℕ) → b < 256 → is_hex_digit b ≡ true → hex_lane b < 16
digit_lane_of b fits e =
    ltb-true _ _ (implied (is_hex_digit b) (ltb (hex_lane b) 16) (agree_below_at (λ b. not (is_hex_digit b) || ltb (hex_lane b) 16) (λ _. true) 256 b refl fits) e)

lanes_of : (s : List ℕ) → ((k : ℕ) → get_or s k 0 < 256) → AllPass is_hex_digit s → AllByRecursion (λ x. x < 16) (map hex_lane s)
lanes_of [] fits all = tt
lanes_of (b ∷ s) fits all = (digit_lane_of b (fits 0) (all 0 0 (omega arith)), lanes_of s (λ k. fits (suc k)) (λ k d l. all (suc k) d (omega arith)))

pub digits_of : (s bytes : List ℕ) → ((k : ℕ) → get_or s k 0 < 256) → decode_of s ≡ Ok bytes → AllByRecursion (λ x. x < 16) (map hex_lane s)
digits_of s bytes fits e = lanes_of s fits (decode_of-ok s bytes e).1
