-- What is read in the payload of a group (J1939-71).
use Rattle.std.specs.Prelude.{◌≡◌, ◌-◌, ◌/◌, ◌%◌, ◌^◌, ◌+◌, ◌+ℤ◌, ◌-ℤ◌, ◌*ℤ◌, ◌==◌, ◌&&◌, ◌||◌, not, ℕ, ℤ, pos, List, length, Bool, Option, Some, None, if◌then◌else◌, nat_le, nat_lt, slice_get, slice_range, filter, map, take, drop}
use Rattle.std.specs.Option.{option_and_then, option_map, option_to_list}
use Rattle.std.specs.List.{filter_map, flat_map, list_any, list_all}
use Rattle.byteorder.specs.Endian.{little_number}
use Rattle.j39_groups.specs.Value.{SlotRecord, ValueRecord, number, on, off, error, reserved, indicator, text, ReadingRecord}
use Rattle.j39_groups.specs.Row.{FieldRecord, number_field, bits_field, full_field, switch_field, text_field, texts_field, RowRecord}
use Rattle.j39_groups.specs.Table.{the_table}
use Rattle.j39_groups.specs.Parts.{parts_of}
use Rattle.j39_groups.specs.Ranges.{top_byte, is_valid}

-- the number in the bytes first to last, counted from 1, the low byte first, where all lie within the payload
unfoldable pub raw_number : ℕ → ℕ → List ℕ → Option ℕ
raw_number first last bytes =
    if nat_le last (length bytes) then Some
    (little_number (last - (first - 1)) (slice_range bytes (first - 1) last)) else None

-- what a raw number means, by its top byte; nothing where it is not available
unfoldable pub by_top_byte : ℕ → ValueRecord → Option ValueRecord
by_top_byte top valid =
    if is_valid top then Some valid else
    (if nat_le top 0xFB then Some indicator else
    (if nat_le top 0xFD then Some reserved else
    (if nat_le top 0xFE then Some error else None)))

-- a valid raw number is so many steps above the offset
abbrev pub number_meaning : ℕ → SlotRecord → ℕ → Option ValueRecord
number_meaning count slot raw = by_top_byte (top_byte count raw) (number (pos raw *ℤ slot.step +ℤ slot.offset) slot)

-- the last byte that has one of so many bits from the bit low of a byte on
abbrev pub last_byte : ℕ → ℕ → ℕ → ℕ
last_byte byte low count = byte - 1 + (low - 1 + count + 7) / 8

-- the number in these bits, the low bit first, where all lie within the payload
unfoldable pub raw_bits : ℕ → ℕ → ℕ → List ℕ → Option ℕ
raw_bits byte low count bytes =
    if nat_le (last_byte byte low count) (length bytes)
    then Some (little_number (last_byte byte low count - (byte - 1))
    (slice_range bytes (byte - 1) (last_byte byte low count)) / 2 ^ (low - 1) % 2 ^ count)
    else None

-- a number of 8, 16, 24 or 32 bits means what one of as many bytes does; of others, two and more that are all set are not
-- available, and of two the one below is an error (J1939-71, 5.1.4); any other is valid (own)
unfoldable pub bits_meaning : ℕ → SlotRecord → ℕ → Option ValueRecord
bits_meaning count slot raw =
    if count % 8 == 0 then number_meaning (count / 8) slot raw else
    (if nat_lt 1 count && raw + 1 == 2 ^ count then None else
    (if count == 2 && raw == 2 then Some error else
    Some (number (pos raw *ℤ slot.step +ℤ slot.offset) slot)))

-- what so many bits are in two's complement: 2 ^ count less where the highest of them is set
abbrev pub signed_number : ℕ → ℕ → ℤ
signed_number count raw = if nat_le (2 ^ (count - 1)) raw then pos raw -ℤ pos (2 ^ count) else pos raw

-- that, or the raw number as it is
abbrev pub full_number : ℕ → Bool → ℕ → ℤ
full_number count is_signed raw = if is_signed then signed_number count raw else pos raw

-- each is valid (own)
abbrev pub full_value : ℕ → Bool → SlotRecord → ℕ → ValueRecord
full_value count is_signed slot raw = number (full_number count is_signed raw *ℤ slot.step +ℤ slot.offset) slot

-- two bits: off, on, error, not available
unfoldable pub switch_meaning : ℕ → Option ValueRecord
switch_meaning bits =
    if bits == 0 then Some off else (if bits == 1 then Some on else (if bits == 2 then Some error else None))

-- an empty part is not there
unfoldable pub text_meaning : List ℕ → Option ValueRecord
text_meaning part = if length part == 0 then None else Some (text part)

-- nor, where a group fills what it does not use, a part of bytes FF alone (own)
unfoldable pub filled_text_meaning : List ℕ → Option ValueRecord
filled_text_meaning part = if list_all (λ b. b == 0xFF) part then None else Some (text part)

-- the values in a field, in the payload's order: one at most but where a field has several texts
unfoldable pub values_at : List ℕ → FieldRecord → List ValueRecord
values_at bytes (number_field first last slot) =
    option_to_list (option_and_then (number_meaning (last - (first - 1)) slot) (raw_number first last bytes))
values_at bytes (bits_field byte low count slot) =
    option_to_list (option_and_then (bits_meaning count slot) (raw_bits byte low count bytes))
values_at bytes (full_field byte low count is_signed slot) =
    option_to_list (option_map (full_value count is_signed slot) (raw_bits byte low count bytes))
values_at bytes (switch_field byte low high) =
    option_to_list (option_and_then (λ b. switch_meaning (b / 2 ^ (low - 1) % 4)) (slice_get bytes (byte - 1)))
values_at bytes (text_field part) = option_to_list
    (option_and_then text_meaning (slice_get (parts_of bytes) (part - 1)))
values_at bytes (texts_field byte count) =
    filter_map filled_text_meaning (take count (parts_of (drop (byte - 1) bytes)))

abbrev pub readings_at : List ℕ → RowRecord → List ReadingRecord
readings_at bytes row = map (λ value. record { spn = row.spn; value = value }) (values_at bytes row.field)

-- the rows of a group, in the table's order
abbrev pub group_rows : ℕ → List RowRecord → List RowRecord
group_rows pgn table = filter (λ row. row.pgn == pgn) table

-- each group has the same rows in both tables, in the same order
pub record HaveSameGroups (these those : List RowRecord) : Type 0 where
  pub same : (pgn : ℕ) → group_rows pgn these ≡ group_rows pgn those

-- a parameter (SPN) is one of these
abbrev pub is_among : List ℕ → ℕ → Bool
is_among spns spn = list_any (λ listed. listed == spn) spns

-- the rows of these parameters, in the table's order
abbrev pub rows_of_spns : List ℕ → List RowRecord → List RowRecord
rows_of_spns spns table = filter (λ row. is_among spns row.spn) table

-- what each row of the group gives
unfoldable pub readings_in : List RowRecord → ℕ → List ℕ → List ReadingRecord
readings_in table pgn bytes = flat_map (readings_at bytes) (group_rows pgn table)

-- the groups of packets, of announcements and of claims: no table makes a parameter group of them
abbrev pub is_network_group : ℕ → Bool
is_network_group pgn = pgn == 60160 || (pgn == 60416 || pgn == 60928)

-- a group below PF 240 has no group extension: its low byte is 0 (J1939-21, 5.2)
abbrev pub is_heard_group : ℕ → Bool
is_heard_group pgn = nat_le 240 (pgn / 256 % 256) || pgn % 256 == 0

-- a table lists the group, and the network leaves it to tables
unfoldable pub is_reported_in : List RowRecord → ℕ → Bool
is_reported_in table pgn = not (is_network_group pgn) && list_any (λ row. row.pgn == pgn) table

-- by the table that is built in
abbrev pub readings_of : ℕ → List ℕ → List ReadingRecord
readings_of pgn bytes = readings_in the_table pgn bytes

abbrev pub is_reported_group : ℕ → Bool
is_reported_group pgn = is_reported_in the_table pgn
