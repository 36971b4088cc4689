-- Numbers as they are spelled in words.
use Rattle.std.specs.Prelude.{◌<◌, ◌≤◌, ℕ, List}
use Rattle.std.specs.Str.Parse.{IsNumeral, digits_value}

-- one or more decimal digits, leading zeros taken, of a number below the limit
abbrev pub IsNumberBelow : ℕ → List ℕ → Type 0
IsNumberBelow limit text = IsNumeral 10 text × (digits_value 10 text < limit)

-- the same of a number from the least to the most
abbrev pub IsNumberIn : ℕ → ℕ → List ℕ → Type 0
IsNumberIn least most text =
    IsNumeral 10 text × (least ≤ digits_value 10 text) × (digits_value 10 text ≤ most)
