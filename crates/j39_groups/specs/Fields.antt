-- Where a parameter may stand in a payload.
use Rattle.std.specs.Prelude.{◌≡◌, ◌==◌, ◌&&◌, ◌+◌, ◌-◌, ◌*◌, ◌^◌, ◌<◌, ◌≤◌, ⊤, ℕ, Bool, nat_lt, nat_le, unsigned_abs}
use Rattle.j39_groups.specs.declared.field.Field.{Field}
use Rattle.j39_groups.specs.declared.field.Field.TheVariants.{Number, Bits, Full, Switch, Text, Texts}
use Rattle.j39_groups.specs.declared.slot.Slot.{Slot}

-- the largest magnitude that a value of a raw number of so many bits can have
abbrev pub largest : ℕ → Slot → ℕ
largest bits scale = scale.step * (2 ^ bits - 1) + unsigned_abs scale.offset

pub record IsSoundBytes (first last : ℕ) (scale : Slot) : Type 0 where
  pub starts : 0 < first
  pub ordered : first ≤ last
  pub narrow : last < first + 4
  pub fits : largest (8 * (last - first + 1)) scale < 2 ^ 63

pub record IsSoundBits (byte low count : ℕ) (scale : Slot) : Type 0 where
  pub byte_starts : 0 < byte
  pub starts : 0 < low
  pub ends : low ≤ 8
  pub some : 0 < count
  pub narrow : count ≤ 32
  pub fits : largest count scale < 2 ^ 63

pub record IsSoundPair (byte low high : ℕ) : Type 0 where
  pub byte_starts : 0 < byte
  pub starts : 0 < low
  pub two : high ≡ low + 1
  pub ends : high ≤ 8

pub record IsSoundPart (part : ℕ) : Type 0 where
  pub starts : 0 < part

pub record IsSoundParts (byte count : ℕ) : Type 0 where
  pub byte_starts : 0 < byte
  pub few : count ≤ 31

-- bytes, bits and parts count from 1; a number has one to four bytes, or one to 32 bits that may go over a byte's end, and each
-- of its values fits 64 bits; a switch has two bits of a byte; there are 31 parts at most
abbrev pub IsSound : Field → Type 0
IsSound (Number first last scale) = IsSoundBytes first last scale
IsSound (Bits byte low count scale) = IsSoundBits byte low count scale
IsSound (Full byte low count is_signed scale) = IsSoundBits byte low count scale
IsSound (Switch byte low high) = IsSoundPair byte low high
IsSound (Text part) = IsSoundPart part
IsSound (Texts byte count) = IsSoundParts byte count

-- the same as a test
abbrev pub is_sound : Field → Bool
is_sound (Number first last scale) =
    nat_lt 0 first && (nat_le first last && nat_lt last (first + 4))
    && nat_lt (largest (8 * (last - first + 1)) scale) (2 ^ 63)
is_sound (Bits byte low count scale) =
    nat_lt 0 byte && (nat_lt 0 low && (nat_le low 8 && (nat_lt 0 count && nat_le count 32)))
    && nat_lt (largest count scale) (2 ^ 63)
is_sound (Full byte low count is_signed scale) =
    nat_lt 0 byte && (nat_lt 0 low && (nat_le low 8 && (nat_lt 0 count && nat_le count 32)))
    && nat_lt (largest count scale) (2 ^ 63)
is_sound (Switch byte low high) = nat_lt 0 byte && (nat_lt 0 low && (high == low + 1 && nat_le high 8))
is_sound (Text part) = nat_lt 0 part
is_sound (Texts byte count) = nat_lt 0 byte && nat_le count 31

-- no field of several texts
abbrev pub HasOneValue : Field → Type 0
HasOneValue (Number first last scale) = ⊤
HasOneValue (Bits byte low count scale) = ⊤
HasOneValue (Full byte low count is_signed scale) = ⊤
HasOneValue (Switch byte low high) = ⊤
HasOneValue (Text part) = ⊤
HasOneValue (Texts byte count) = ⊥

-- a number that has words, or a switch
abbrev pub IsShort : Field → Type 0
IsShort (Number first last scale) = ⊤
IsShort (Bits byte low count scale) = ⊤
IsShort (Full byte low count is_signed scale) = ⊥
IsShort (Switch byte low high) = ⊤
IsShort (Text part) = ⊥
IsShort (Texts byte count) = ⊥
