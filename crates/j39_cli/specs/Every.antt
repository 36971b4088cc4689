-- How long the spans of a grid are.
use Rattle.std.specs.Prelude.{◌≤◌, ℕ}

-- a microsecond to a day
abbrev pub IsSpan : ℕ → Type 0
IsSpan micros = (1 ≤ micros) × (micros ≤ 86400000000)
