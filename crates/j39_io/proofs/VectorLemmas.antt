-- Digits by vectors, lane by lane; for the functions of `vectors.rt`.
use Rattle.std.proofs.Common.{◌≡◌, ◌<◌, ◌+◌, ◌/◌, ◌%◌, ◌∙◌, ℕ, zero, suc, Bool, true, false, cond, leb, ltb, nat_eq, ◌&&◌, List, [], ◌∷◌, ◌++◌, length, map, replicate, get_or, slice_index, slice_index_or, refl, ap, ap₂, arith, subst}
use Rattle.std.specs.Simd.Lanes.{sel_l, top, zip2}
use Rattle.std.proofs.lemmas.Simd.{pick_l_whole}
use Rattle.std.proofs.lemmas.Bool.{agree_below, agree_below_at, and_parts, eqb-true}
use Rattle.hex.specs.Hex.{encode_upper, encode_with, upper_digits}
use Rattle.j39_io.specs.Vectors.{digit_lane}

-- ---- the digits of values

same_test : (b : Bool) → leb 128 (cond b 255 0) ≡ b
same_test true = refl
same_test false = refl

pub digit_lanes : (xs : List ℕ) (n : ℕ) → length xs ≡ n
    → zip2 (λ a b. (a + b) % 256) xs (sel_l (map (top 7) (zip2 (λ a b. cond (ltb a b) 255 0) xs (replicate n 10))) (replicate n 48) (replicate n 55))
    ≡ map digit_lane xs
digit_lanes [] n e = refl
digit_lanes (x ∷ xs) zero e = absurd (omega arith)
digit_lanes (x ∷ xs) (suc n) e = rw (same_test (ltb x 10)) (ap (λ r. digit_lane x ∷ r) (digit_lanes xs n (omega arith)))

-- ---- the halves of bytes, as vectors compute them and side by side

module _ (high low : ℕ → ℕ → ℕ) where
  abbrev halves : List ℕ → List ℕ
  halves bytes = zip2 high bytes (replicate 8 4) ++ zip2 low bytes (replicate 8 15)

  abbrev half : List ℕ → ℕ → ℕ
  half bytes i = slice_index_or (halves bytes) i 0

  abbrev shuffled : List ℕ → List ℕ
  shuffled b = half b 0 ∷ half b 8 ∷ half b 1 ∷ half b 9 ∷ half b 2 ∷ half b 10 ∷ half b 3 ∷ half b 11 ∷ half b 4 ∷ half b 12 ∷ half b 5 ∷ half b 13
      ∷ half b 6 ∷ half b 14 ∷ half b 7 ∷ half b 15 ∷ []

  abbrev paired : List ℕ → List ℕ
  paired [] = []
  paired (b ∷ bytes) = high b 4 ∷ low b 15 ∷ paired bytes

  shuffled_are : (bytes : List ℕ) → length bytes ≡ 8 → shuffled bytes ≡ paired bytes
  shuffled_are bytes long = subst (λ (b : List ℕ). shuffled b ≡ paired b) (pick_l_whole 0 bytes 8 long) refl

  abbrev agrees : ℕ → Bool
  agrees b = nat_eq (digit_lane (high b 4)) (slice_index upper_digits (b / 16)) && nat_eq (digit_lane (low b 15)) (slice_index upper_digits (b % 16))

  digits_paired : agree_below agrees (λ _. true) 256 ≡ true → (bytes : List ℕ) → ((k : ℕ) → get_or bytes k 0 < 256)
      → map digit_lane (paired bytes) ≡ encode_upper bytes
  unfolding encode_with
  digits_paired all [] fits = refl
  digits_paired all (b ∷ bytes) fits =
      let both = and_parts _ _ (agree_below_at agrees (λ _. true) 256 b all (fits 0)) in
      ap₂ (λ (h l : ℕ). h ∷ l ∷ map digit_lane (paired bytes)) (eqb-true _ _ both.0) (eqb-true _ _ both.1)
      ∙ ap (λ (r : List ℕ). slice_index upper_digits (b / 16) ∷ slice_index upper_digits (b % 16) ∷ r) (digits_paired all bytes (λ k. fits (suc k)))

  pub digits_are : agree_below agrees (λ _. true) 256 ≡ true → (bytes : List ℕ) → length bytes ≡ 8 → ((k : ℕ) → get_or bytes k 0 < 256)
      → map digit_lane (shuffled bytes) ≡ encode_upper bytes
  digits_are all bytes long fits = ap (map digit_lane) (shuffled_are bytes long) ∙ digits_paired all bytes fits
