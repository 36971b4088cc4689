-- Digits of a radix.
use Rattle.std.proofs.Common.{◌<◌, ℕ, zero, suc, List, [], ◌∷◌, length, get_or, arith}
use Rattle.std.specs.Char.{digit_value}
use Rattle.std.specs.Str.Parse.{AllDigits}

-- a byte of a numeral is a digit
pub digit_below : (radix : ℕ) (digits : List ℕ) (i : ℕ) → AllDigits radix digits → i < length digits → digit_value (get_or digits i 0) < radix
digit_below radix [] i all below = absurd (omega arith)
digit_below radix (c ∷ cs) zero all below = all.0
digit_below radix (c ∷ cs) (suc i) all below = digit_below radix cs i all.1 (omega arith)
