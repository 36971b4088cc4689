-- Digits as vectors read them.
use Rattle.std.specs.Prelude.{ℕ, ◌+◌, ◌-◌, ◌*◌, ◌%◌, Bool, List, [], ◌∷◌, ◌++◌, take, drop, get_or, map, bit_or, nat_le, nat_lt, if◌then◌else◌}
use Rattle.std.specs.Simd.Lanes.{zip2}
use Rattle.std.specs.List.{range_with_len}

abbrev pub smaller : ℕ → ℕ → ℕ
smaller a b = if nat_lt a b then a else b

abbrev pub larger : ℕ → ℕ → ℕ
larger a b = if nat_lt a b then b else a

-- the value of the digit b, and 16 or more for another byte
abbrev pub digit_lane : ℕ → ℕ
digit_lane b = (larger ((b + 198) % 256) 6 + 10) % 256

-- the value of the letter b as a hex digit, and 16 or more for another byte
abbrev pub letter_lane : ℕ → ℕ
letter_lane b = (smaller ((bit_or b 32 + 159) % 256) 245 + 10) % 256

-- the value of the hex digit b, and 16 or more for another byte
abbrev pub hex_lane : ℕ → ℕ
hex_lane b = smaller (digit_lane b) (letter_lane b)

-- the number of the k-th pair of digits
abbrev pub pair_at : ℕ → List ℕ → ℕ → ℕ
pair_at base v k = (get_or (v ++ v) (2 * k) 0 * base % 256 + get_or (v ++ v) (2 * k + 1) 0) % 256

-- the bytes that sixteen hex digits write
abbrev pub bytes_of : List ℕ → List ℕ
bytes_of digits = map (pair_at 16 (map hex_lane digits)) (range_with_len 0 8)

-- the third to the last byte of `(0123456789.012345`, each less the zero or the point that stands there
abbrev pub stamp_lanes : List ℕ → List ℕ
stamp_lanes front =
    zip2 (λ a b. (a + (256 - b)) % 256) (take 16 (take 16 (drop 2 front)))
    (48 ∷ 48 ∷ 48 ∷ 48 ∷ 48 ∷ 48 ∷ 48 ∷ 48 ∷ 48 ∷ 46 ∷ 48 ∷ 48 ∷ 48 ∷ 48 ∷ 48 ∷ 48 ∷ [])

-- no visible character of ASCII, which are 0x21 to 0x7E
abbrev pub is_gap : ℕ → Bool
is_gap b = nat_le 94 ((b + 223) % 256)
