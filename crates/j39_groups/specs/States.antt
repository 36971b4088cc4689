-- The names of a parameter's states, behind its name in a row: `gear = 0 neutral, 1 first` (own).
use Rattle.std.specs.Prelude.{◌==◌, ◌-ℤ◌, ◌/◌, ◌%◌, ◌||◌, ◌++◌, ◌∷◌, ℕ, ℤ, suc, List, [], Option, Some, None, codes, decimal, drop, if◌then◌else◌, length, nat_eq, slice_get, take, unsigned_abs}
use Rattle.std.specs.Int.{is_negative}
use Rattle.std.specs.List.{filter_map, slice_split, starts_with}
use Rattle.std.specs.Option.{option_and_then}
use Rattle.j39_io.specs.Chars.{space}
use Rattle.j39_io.specs.Records.{comma}
use Rattle.j39_groups.specs.Row.{FieldRecord, number_field, bits_field, full_field, switch_field, text_field, texts_field, RowRecord}
use Rattle.j39_groups.specs.Value.{SlotRecord, ValueRecord, number, on, off, error, reserved, indicator, text}

-- ---- in the text of a name

-- how long the name itself is: up to the first ` = `, or to the end
unfoldable pub name_len : List ℕ → ℕ
name_len [] = 0
name_len (b ∷ rest) = if starts_with nat_eq (b ∷ rest) (codes " = ") then 0 else suc (name_len rest)

-- what the parameter is called
abbrev pub called : List ℕ → List ℕ
called name = take (name_len name) name

-- what stands behind that: nothing, or ` = ` and the states
abbrev pub states_part : List ℕ → List ℕ
states_part name = drop (name_len name) name

-- behind the `=` the states stand between commas
abbrev pub states_in : List ℕ → List (List ℕ)
states_in part = slice_split (λ b. b == comma) (drop 2 part)

-- a state begins with a space, its raw number in decimal, and a space
abbrev pub state_front : ℕ → List ℕ
state_front raw = space ∷ (decimal raw ++ (space ∷ []))

-- the words behind these, of a state of this raw number
unfoldable pub state_words : ℕ → List ℕ → Option (List ℕ)
state_words raw state =
    if starts_with nat_eq state (state_front raw) then Some (drop (length (state_front raw)) state) else None

-- what the first state of this raw number is called
unfoldable pub state_named : List ℕ → ℕ → Option (List ℕ)
state_named name raw = slice_get (filter_map (state_words raw) (states_in (states_part name))) 0

-- ---- of a value

-- how many steps a number is above the offset; nothing below it, and between two steps
unfoldable pub steps_up : ℤ → SlotRecord → Option ℕ
steps_up n slot =
    if is_negative (n -ℤ slot.offset) || (unsigned_abs slot.step == 0) then None else
    (if unsigned_abs (n -ℤ slot.offset) % unsigned_abs slot.step == 0
    then Some (unsigned_abs (n -ℤ slot.offset) / unsigned_abs slot.step) else None)

-- the one raw number that is an error: 10 of two bits, FE of a byte (J1939-71, 5.1.4); of more bytes many are
unfoldable pub error_in : FieldRecord → Option ℕ
error_in (number_field first last slot) = if first == last then Some 0xFE else None
error_in (bits_field byte low count slot) =
    if count == 2 then Some 2 else (if count == 8 then Some 0xFE else None)
error_in (full_field byte low count is_signed slot) = None
error_in (switch_field byte low high) = Some 2
error_in (text_field part) = None
error_in (texts_field byte count) = None

-- the one that is an indicator: FB of a byte
unfoldable pub indicator_in : FieldRecord → Option ℕ
indicator_in (number_field first last slot) = if first == last then Some 0xFB else None
indicator_in (bits_field byte low count slot) = if count == 8 then Some 0xFB else None
indicator_in (full_field byte low count is_signed slot) = None
indicator_in (switch_field byte low high) = None
indicator_in (text_field part) = None
indicator_in (texts_field byte count) = None

-- the raw number that a value of a field stands for, where it is one alone; a signed one counts from 0 up
unfoldable pub raw_behind : FieldRecord → ValueRecord → Option ℕ
raw_behind field (number n slot) = steps_up n slot
raw_behind field on = Some 1
raw_behind field off = Some 0
raw_behind field error = error_in field
raw_behind field reserved = None
raw_behind field indicator = indicator_in field
raw_behind field (text bytes) = None

-- what the state of a value is called, by a row
unfoldable pub state_by : ValueRecord → RowRecord → Option (List ℕ)
state_by value row = option_and_then (state_named row.name) (raw_behind row.field value)
