-- The ranges of a raw number, by its top byte (J1939-71, 5.1.4).
use Rattle.std.specs.Prelude.{◌-◌, ◌/◌, ◌^◌, ℕ, Bool, nat_le}

-- the top byte of a raw number of count bytes
abbrev pub top_byte : ℕ → ℕ → ℕ
top_byte count raw = raw / 256 ^ (count - 1)

abbrev pub is_valid : ℕ → Bool
is_valid top = nat_le top 0xFA
