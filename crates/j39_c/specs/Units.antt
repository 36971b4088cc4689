-- The units of values.
use Rattle.std.specs.Prelude.{Bool, true, length, nat_le}
use Rattle.j39_groups.specs.Value.{ValueRecord, number, on, off, error, reserved, indicator, text}

-- a number's unit has seven bytes at most; nothing else has one
abbrev pub has_short_unit : ValueRecord → Bool
has_short_unit (number n slot) = nat_le (length slot.unit) 7
has_short_unit on = true
has_short_unit off = true
has_short_unit error = true
has_short_unit reserved = true
has_short_unit indicator = true
has_short_unit (text bytes) = true
