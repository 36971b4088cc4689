-- Seconds with decimals, as they are asked for.
use Rattle.std.specs.Prelude.{◌≢◌, ◌==◌, ◌≤◌, ◌+◌, ◌-◌, ◌*◌, ◌^◌, ℕ, Bool, List, drop, length, not, take}
use Rattle.std.specs.List.{prefix_len}
use Rattle.std.specs.Str.Parse.{AllDigits, digits_value}

abbrev pub point : ℕ
point = 0x2E

abbrev pub is_before_point : ℕ → Bool
is_before_point byte = not (byte == point)

-- the digits before the point, and those behind it, if there is one
abbrev pub whole_of : List ℕ → List ℕ
whole_of text = take (prefix_len is_before_point text) text

abbrev pub decimals_of : List ℕ → List ℕ
decimals_of text = drop 1 (drop (prefix_len is_before_point text) text)

-- seconds of one to ten digits, and one to six decimals where there is a point
pub record AreSeconds (text : List ℕ) : Type 0 where
  pub whole : AllDigits 10 (whole_of text)
  pub some : 1 ≤ length (whole_of text)
  pub fits : length (whole_of text) ≤ 10
  pub decimals : AllDigits 10 (decimals_of text)
  pub few : length (decimals_of text) ≤ 6
  pub pointed : length text ≢ length (whole_of text) → 1 ≤ length (decimals_of text)

-- decimals in microseconds
abbrev pub scaled : List ℕ → ℕ
scaled digits = digits_value 10 digits * 10 ^ (6 - length digits)

-- seconds in microseconds
abbrev pub seconds_value : List ℕ → ℕ
seconds_value text = digits_value 10 (whole_of text) * 10 ^ 6 + scaled (decimals_of text)
