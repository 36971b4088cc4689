-- The text of a value (own).
use Rattle.std.specs.Prelude.{◌/◌, ◌^◌, ◌%◌, ◌==◌, ◌&&◌, not, true, ℕ, zero, suc, ℤ, List, [], ◌∷◌, ◌++◌, Bool, if◌then◌else◌, nat_le, nat_lt, unsigned_abs, codes}
use Rattle.std.specs.Int.{is_negative}
use Rattle.std.specs.List.{flat_map}
use Rattle.std.specs.Fmt.{decimal, digit_glyph, sign_text}
use Rattle.j39_io.specs.Chars.{space, delete, quote, backslash}
use Rattle.j39_io.specs.Printing.{last_digits}
use Rattle.j39_io.specs.Records.{behind_front, escaped_front}
use Rattle.j39_groups.specs.Value.{SlotRecord, ValueRecord, number, on, off, error, reserved, indicator, text}

-- nothing where there are no places, else `.` and the last digits
abbrev pub places_text : ℕ → ℕ → List ℕ
places_text zero magnitude = []
places_text (suc more) magnitude = codes "." ++ last_digits (suc more) magnitude

-- in decimal: the magnitude divided by 10 ^ places, and the places
unfoldable pub magnitude_text : ℕ → ℕ → List ℕ
magnitude_text places magnitude = decimal (magnitude / 10 ^ places) ++ places_text places magnitude

-- `-` where negative, and the magnitude with its places
abbrev pub scaled_text : ℕ → ℤ → List ℕ
scaled_text places n = sign_text (is_negative n) ++ magnitude_text places (unsigned_abs n)

-- a space and the unit follow
abbrev pub number_text : ℤ → SlotRecord → List ℕ
number_text n slot = scaled_text slot.places n ++ codes " " ++ slot.unit

-- a printable character but for the quote and the backslash
abbrev pub is_plain : ℕ → Bool
is_plain byte = nat_le space byte && (nat_lt byte delete && (not (byte == quote) && not (byte == backslash)))

-- any other byte is `\x` and two upper-case hex digits
abbrev pub byte_text : ℕ → List ℕ
byte_text byte =
    if is_plain byte then byte ∷ [] else codes "\\x"
    ++ (digit_glyph true (byte / 16) ∷ digit_glyph true (byte % 16) ∷ [])

-- in quotes
abbrev pub quoted : List ℕ → List ℕ
quoted bytes = codes "\"" ++ flat_map byte_text bytes ++ codes "\""

unfoldable pub value_text : ValueRecord → List ℕ
value_text (number n slot) = number_text n slot
value_text on = codes "on"
value_text off = codes "off"
value_text error = codes "error"
value_text reserved = codes "reserved"
value_text indicator = codes "indicator"
value_text (text bytes) = quoted bytes

-- a number without its unit, or what else there is
unfoldable pub bare_text : ValueRecord → List ℕ
bare_text (number n slot) = scaled_text slot.places n
bare_text on = value_text on
bare_text off = value_text off
bare_text error = value_text error
bare_text reserved = value_text reserved
bare_text indicator = value_text indicator
bare_text (text bytes) = value_text (text bytes)

-- a text as a field of a record: in quotes, and none that a spreadsheet takes for a formula
abbrev pub text_in_field : List ℕ → List ℕ
text_in_field bytes =
    codes "\"" ++ (escaped_front bytes ++ (flat_map byte_text (behind_front bytes) ++ codes "\""))

-- as a field of a record
unfoldable pub value_field : ValueRecord → List ℕ
value_field (text bytes) = text_in_field bytes
value_field value = bare_text value

-- the unit of a number; nothing else has one
unfoldable pub unit_of : ValueRecord → List ℕ
unit_of (number n slot) = slot.unit
unit_of on = []
unit_of off = []
unit_of error = []
unit_of reserved = []
unit_of indicator = []
unit_of (text bytes) = []
