use Rattle.std.proofs.Common.{◌≡◌, ◌<◌, ◌^◌, take}
use Rattle.std.specs.Str.Parse.{AllDigits, digits_value}
use Rattle.j39_io.proofs.digits.number.Given as goal

-- the bytes so far are digits, and write the value, which fits
abbrev pub invariant-loop-digit : goal.invariant-loop-digit
invariant-loop-digit l =
    AllDigits l.radix (take l.digit-index l.digits) × (l.value ≡ digits_value l.radix (take l.digit-index l.digits)) × (l.value < 2 ^ 64)
