-- The columns of a number's scale, each by itself.
use Rattle.std.specs.Prelude.{◌≡◌, ◌-◌, ◌*◌, ◌^◌, ◌<◌, ◌≤◌, ℕ, ℤ, List, pos, unsigned_abs}
use Rattle.j39_groups.specs.ValueText.{scaled_text}

-- a positive step, as printed, so small that each number of so many bits has a value
pub record SaysStep (text : List ℕ) (bits step places : ℕ) : Type 0 where
  pub text_is : text ≡ scaled_text places (pos step)
  pub starts : 0 < step
  pub few : places ≤ 15
  pub fits : step * (2 ^ bits - 1) < 2 ^ 63

-- an offset below a bound, as printed
pub record SaysOffset (text : List ℕ) (places room : ℕ) (offset : ℤ) : Type 0 where
  pub text_is : text ≡ scaled_text places offset
  pub fits : unsigned_abs offset < room
