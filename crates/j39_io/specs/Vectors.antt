-- Digits as vectors write them.
use Rattle.std.specs.Prelude.{ℕ, ◌+◌, ◌%◌, nat_lt, if◌then◌else◌}

-- the upper-case hex digit of a value below 16
abbrev pub digit_lane : ℕ → ℕ
digit_lane value = (value + (if nat_lt value 10 then 48 else 55)) % 256
