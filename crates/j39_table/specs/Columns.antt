-- Numbers as they stand in a table.
use Rattle.std.specs.Prelude.{◌≡◌, ◌==◌, ◌∷◌, ⊤, ℕ, ℤ, List, [], Bool, false, not}
use Rattle.std.specs.Int.{is_negative}

abbrev pub is_not_point : ℕ → Bool
is_not_point b = not (b == 46)

-- no `-` in front
abbrev pub IsUnsigned : List ℕ → Type 0
IsUnsigned [] = ⊤
IsUnsigned (first ∷ rest) = (first == 45) ≡ false

abbrev pub is_negative_number : ℤ → Bool
is_negative_number n = is_negative n
