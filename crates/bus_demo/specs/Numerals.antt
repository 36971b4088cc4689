-- The numbers that words spell.
use Rattle.std.specs.Prelude.{◌≤◌, ℕ, List}
use Rattle.std.specs.Str.Parse.{IsNumeral, digits_value}

-- one or more decimal digits, of a number within these bounds
abbrev pub IsNumberWithin : ℕ → ℕ → List ℕ → Type 0
IsNumberWithin least most text = IsNumeral 10 text × (least ≤ digits_value 10 text) × (digits_value 10 text ≤ most)
