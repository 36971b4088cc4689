-- Readings as C has them.
use Rattle.std.specs.Prelude.{◌≡◌, ◌<◌, ◌≤◌, ◌^◌, ◌++◌, ◌-◌, ◌⊎◌, ℕ, zero, suc, ℤ, pos, negsuc, List, [], Option, Some, None, true, false, length, replicate, slice_get, take}
use Rattle.j39_groups.specs.Readings.{readings_in}
use Rattle.j39_groups.specs.Row.{RowRecord}
use Rattle.j39_groups.specs.Table.{the_table}
use Rattle.j39_groups.specs.Value.{ReadingRecord, ValueRecord, number, on, off, error, reserved, indicator, text}
use Rattle.j39_c.specs.Codes.{end, no_room}
use Rattle.j39_c.specs.Units.{has_short_unit}
use Rattle.j39_c.specs.declared.message.WholeMessage.{WholeMessage}
use Rattle.j39_c.specs.declared.reading.PlainReading.{PlainReading}

-- its parts are in range
pub record IsReadable (m : WholeMessage) : Type 0 where
  pub pgn : m.pgn < 2 ^ 18
  pub len : m.len ≤ 1785

-- and its moment is
pub record IsReportable (m : WholeMessage) : Type 0 where
  pub readable : IsReadable m
  pub micros : m.micros < 10 ^ 16

-- its reading of this number, from 0 on, by a table
abbrev pub reading_by : List RowRecord → WholeMessage → ℕ → Option ReadingRecord
reading_by table m index = slice_get (readings_in table m.pgn (take m.len m.data)) index

-- the same, by the built-in one
abbrev pub reading_in : WholeMessage → ℕ → Option ReadingRecord
reading_in m index = reading_by the_table m index

-- a text, filled up with zeros to eight bytes
abbrev pub IsFilled : List ℕ → List ℕ → Type 0
IsFilled bytes word = bytes ≡ word ++ replicate (8 - length word) 0

-- no number, but a value of this kind
abbrev pub IsOfKind : PlainReading → ℕ → Type 0
IsOfKind p code = (p.kind ≡ code) × (p.number ≡ pos 0) × (p.places ≡ 0) × IsFilled p.unit []

-- a value in plain numbers
abbrev pub IsPlainValue : PlainReading → ValueRecord → Type 0
IsPlainValue p (number n slot) = (p.kind ≡ 0) × (p.number ≡ n) × (p.places ≡ slot.places) × IsFilled p.unit slot.unit
IsPlainValue p on = IsOfKind p 1
IsPlainValue p off = IsOfKind p 2
IsPlainValue p error = IsOfKind p 3
IsPlainValue p reserved = IsOfKind p 4
IsPlainValue p indicator = IsOfKind p 5
IsPlainValue p (text bytes) = IsOfKind p 6

abbrev pub IsPlain : PlainReading → ReadingRecord → Type 0
IsPlain p reading = (p.spn ≡ reading.spn) × IsPlainValue p reading.value

-- such a reading; one whose unit is too long has no room
pub record IsPlainAnswer (p : PlainReading) (reading : ReadingRecord) (code : ℤ) : Type 0 where
  pub told : has_short_unit reading.value ≡ true → (code ≡ pos 0) × IsPlain p reading
  pub long : has_short_unit reading.value ≡ false → code ≡ no_room

-- a text stands at the front of a buffer, and its length is answered; or memory was refused, or it has no room there
pub record IsTold (wanted : List ℕ) (n : ℕ) (buffer : List ℕ) : Type 0 where
  pub length_is : n ≡ length wanted
  pub text_is : take n buffer ≡ wanted

abbrev pub IsTextAnswer : ℕ → List ℕ → ℤ → List ℕ → Type 0
IsTextAnswer room wanted (pos n) buffer = IsTold wanted n buffer
IsTextAnswer room wanted (negsuc zero) buffer = ⊥
IsTextAnswer room wanted (negsuc (suc zero)) buffer = ⊥
IsTextAnswer room wanted (negsuc (suc (suc zero))) buffer = Unit {0}
IsTextAnswer room wanted (negsuc (suc (suc (suc zero)))) buffer = ⊥
IsTextAnswer room wanted (negsuc (suc (suc (suc (suc zero))))) buffer =
    (room < length wanted) ⊎ (2 ^ 31 ≤ length wanted)
IsTextAnswer room wanted (negsuc (suc (suc (suc (suc (suc n)))))) buffer = ⊥

-- the same of a name, where there is one
abbrev pub IsNameAnswer : Option (List ℕ) → ℕ → ℤ → List ℕ → Type 0
IsNameAnswer (Some name) room answer buffer = IsTextAnswer room name answer buffer
IsNameAnswer None room answer buffer = answer ≡ end
