-- Numbers as text.
use Rattle.std.specs.Prelude.{◌+◌, ◌/◌, ◌%◌, ℕ, zero, suc, List, [], ◌∷◌, ◌++◌}

-- the last count decimal digits of x, with leading zeros
unfoldable pub last_digits : ℕ → ℕ → List ℕ
last_digits zero x = []
last_digits (suc count) x = last_digits count (x / 10) ++ ((48 + x % 10) ∷ [])
