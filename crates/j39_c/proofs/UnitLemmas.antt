-- The units of the built-in table are short.
use Rattle.std.proofs.Common.{◌≡◌, ◌∙◌, ◌+◌, ◌-◌, ◌/◌, ◌%◌, ◌^◌, ◌==◌, ℕ, List, [], ◌∷◌, Bool, true, false, Some, None, ap, drop, inl, inr, length, refl, subst, take}
use Rattle.std.specs.Prelude.{◌+ℤ◌, ◌*ℤ◌, ◌&&◌, Option, if◌then◌else◌, nat_le, nat_lt, pos, slice_get}
use Rattle.std.specs.List.{filter_map, flat_map, list_all}
use Rattle.std.specs.Option.{option_and_then, option_map, option_to_list}
use Rattle.std.proofs.lemmas.Bool.{and_parts, cases_Bool}
use Rattle.std.proofs.lemmas.List.Concat.{flat_map-cons}
use Rattle.std.proofs.lemmas.List.Folds.{list_all-append, list_all-map}
use Rattle.std.proofs.lemmas.List.Sums.{AllPass-from_list_all}
use Rattle.std.proofs.lemmas.Option.{get_or_from_slice_get, slice_get_within}
use Rattle.j39_groups.specs.Parts.{parts_of}
use Rattle.j39_groups.specs.Ranges.{is_valid, top_byte}
use Rattle.j39_groups.specs.Readings.{bits_meaning, by_top_byte, filled_text_meaning, full_value, group_rows, number_meaning, raw_bits, raw_number, readings_at, readings_in, readings_of, switch_meaning, text_meaning, values_at}
use Rattle.j39_groups.specs.Row.{FieldRecord, number_field, bits_field, full_field, switch_field, text_field, texts_field, RowRecord}
use Rattle.j39_groups.specs.Table.{the_table}
use Rattle.j39_groups.specs.ValueText.{unit_of}
use Rattle.j39_groups.specs.Value.{SlotRecord, ReadingRecord, ValueRecord, number, on, off, error, reserved, indicator, text}
use Rattle.j39_c.specs.Units.{has_short_unit}

abbrev has_short_scale : FieldRecord → Bool
has_short_scale (number_field first last slot) = nat_le (length slot.unit) 7
has_short_scale (bits_field byte low count slot) = nat_le (length slot.unit) 7
has_short_scale (full_field byte low count is_signed slot) = nat_le (length slot.unit) 7
has_short_scale (switch_field byte low high) = true
has_short_scale (text_field part) = true
has_short_scale (texts_field byte count) = true

table_is_short : list_all (λ row. has_short_scale row.field) the_table ≡ true
unfolding the_table
table_is_short = refl

-- ---- one value

abbrev are_short : List ValueRecord → Type 0
are_short values = list_all has_short_unit values ≡ true

abbrev is_short : Option ValueRecord → Type 0
is_short o = are_short (option_to_list o)

some_short : (value : ValueRecord) → has_short_unit value ≡ true → is_short (Some value)
some_short value short = rw short refl

of_four : (a b c d : Bool) (value : ValueRecord) → has_short_unit value ≡ true
    → is_short (if a then Some value else (if b then Some indicator else (if c then Some reserved else (if d then Some error else None))))
of_four true b c d value short = some_short value short
of_four false true c d value short = refl
of_four false false true d value short = refl
of_four false false false true value short = refl
of_four false false false false value short = refl

of_three : (a b c : Bool) → is_short (if a then Some off else (if b then Some on else (if c then Some error else None)))
of_three true b c = refl
of_three false true c = refl
of_three false false true = refl
of_three false false false = refl

of_two : (a b : Bool) (value : ValueRecord) → has_short_unit value ≡ true → is_short (if a then None else (if b then Some error else Some value))
of_two true b value short = refl
of_two false true value short = refl
of_two false false value short = some_short value short

unless : (a : Bool) (bytes : List ℕ) → is_short (if a then None else Some (text bytes))
unless true bytes = refl
unless false bytes = refl

top_is_short : (top : ℕ) (value : ValueRecord) → has_short_unit value ≡ true → is_short (by_top_byte top value)
unfolding by_top_byte
top_is_short top value short = of_four (is_valid top) (nat_le top 0xFB) (nat_le top 0xFD) (nat_le top 0xFE) value short

either_is_short : (a : Bool) (x y : Option ValueRecord) → is_short x → is_short y → is_short (if a then x else y)
either_is_short true x y first second = first
either_is_short false x y first second = second

bits_are_short : (count : ℕ) (slot : SlotRecord) (raw : ℕ) → nat_le (length slot.unit) 7 ≡ true → is_short (bits_meaning count slot raw)
unfolding bits_meaning
bits_are_short count slot raw short =
    let value = number (pos raw *ℤ slot.step +ℤ slot.offset) slot in
    either_is_short (count % 8 == 0) _ _ (top_is_short (top_byte (count / 8) raw) value short)
    (of_two (nat_lt 1 count && raw + 1 == 2 ^ count) (count == 2 && raw == 2) value short)

switch_is_short : (bits : ℕ) → is_short (switch_meaning bits)
unfolding switch_meaning
switch_is_short bits = of_three (bits == 0) (bits == 1) (bits == 2)

text_is_short : (part : List ℕ) → is_short (text_meaning part)
unfolding text_meaning
text_is_short part = unless (length part == 0) part

filled_is_short : (part : List ℕ) → is_short (filled_text_meaning part)
unfolding filled_text_meaning
filled_is_short part = unless (list_all (λ b. b == 0xFF) part) part

and_then_short : {X : Type 0} (f : X → Option ValueRecord) (o : Option X) → ((x : X) → is_short (f x)) → is_short (option_and_then f o)
and_then_short f None short = refl
and_then_short f (Some x) short = short x

map_short : {X : Type 0} (f : X → ValueRecord) (o : Option X) → ((x : X) → has_short_unit (f x) ≡ true) → is_short (option_map f o)
map_short f None short = refl
map_short f (Some x) short = some_short (f x) (short x)

parts_are_short : (parts : List (List ℕ)) → are_short (filter_map filled_text_meaning parts)
parts_are_short [] = refl
parts_are_short (part ∷ parts) = one_more (filled_text_meaning part) refl (filled_is_short part) (parts_are_short parts)
  where
    one_more : (o : Option ValueRecord) → filled_text_meaning part ≡ o → is_short o → are_short (filter_map filled_text_meaning parts)
        → are_short (filter_map filled_text_meaning (part ∷ parts))
    one_more None is short more = rw is more
    one_more (Some value) is short more = (let alone = and_parts (has_short_unit value) true short in rw is (rw (alone.0) more))

-- ---- what a row gives

field_is_short : (bytes : List ℕ) (field : FieldRecord) → has_short_scale field ≡ true → are_short (values_at bytes field)
unfolding values_at
field_is_short bytes (number_field first last slot) short =
    and_then_short (number_meaning (last - (first - 1)) slot) (raw_number first last bytes) (λ raw.
    top_is_short (top_byte (last - (first - 1)) raw) (number (pos raw *ℤ slot.step +ℤ slot.offset) slot) short)
field_is_short bytes (bits_field byte low count slot) short =
    and_then_short (bits_meaning count slot) (raw_bits byte low count bytes) (λ raw. bits_are_short count slot raw short)
field_is_short bytes (full_field byte low count is_signed slot) short =
    map_short (full_value count is_signed slot) (raw_bits byte low count bytes) (λ raw. short)
field_is_short bytes (switch_field byte low high) short =
    and_then_short (λ b. switch_meaning (b / 2 ^ (low - 1) % 4)) (slice_get bytes (byte - 1)) (λ b. switch_is_short (b / 2 ^ (low - 1) % 4))
field_is_short bytes (text_field part) short =
    and_then_short text_meaning (slice_get (parts_of bytes) (part - 1)) (λ part. text_is_short part)
field_is_short bytes (texts_field byte count) short = parts_are_short (take count (parts_of (drop (byte - 1) bytes)))

abbrev has_short_reading : ReadingRecord → Bool
has_short_reading reading = has_short_unit reading.value

row_is_short : (bytes : List ℕ) (row : RowRecord) → has_short_scale row.field ≡ true → list_all has_short_reading (readings_at bytes row) ≡ true
row_is_short bytes row short =
    list_all-map has_short_reading (λ value. let r : ReadingRecord = record { spn = row.spn; value = value } in r) (values_at bytes row.field)
    ∙ field_is_short bytes row.field short

rows_are_short : (pgn : ℕ) (bytes : List ℕ) (rows : List RowRecord) → list_all (λ row. has_short_scale row.field) rows ≡ true
    → list_all has_short_reading (flat_map (readings_at bytes) (group_rows pgn rows)) ≡ true
rows_are_short pgn bytes [] short = refl
rows_are_short pgn bytes (row ∷ rows) short =
    let parts = and_parts (has_short_scale row.field) _ short in
    let more = rows_are_short pgn bytes rows parts.1 in
    elim (cases_Bool (row.pgn == pgn)) [
      | inl here ↦ rw here (ap (list_all has_short_reading) (flat_map-cons (readings_at bytes) row (group_rows pgn rows))
          ∙ list_all-append has_short_reading (readings_at bytes row) _ ∙ rw (row_is_short bytes row parts.0) more)
      | inr other ↦ rw other more
    ]

readings_are_short : (pgn : ℕ) (bytes : List ℕ) → list_all has_short_reading (readings_of pgn bytes) ≡ true
unfolding readings_in
readings_are_short pgn bytes = rows_are_short pgn bytes the_table table_is_short

pub reading_is_short : (pgn : ℕ) (bytes : List ℕ) (i : ℕ) (reading : ReadingRecord) → slice_get (readings_of pgn bytes) i ≡ Some reading
    → has_short_unit reading.value ≡ true
reading_is_short pgn bytes i reading found =
    let readings = readings_of pgn bytes in
    subst (λ r. has_short_reading r ≡ true) (get_or_from_slice_get readings i reading reading found)
    (AllPass-from_list_all has_short_reading readings (readings_are_short pgn bytes) i reading (slice_get_within readings i reading found))

-- by the value's unit
pub unit_is_short : (value : ValueRecord) → nat_le (length (unit_of value)) 7 ≡ has_short_unit value
unfolding unit_of
unit_is_short (number n slot) = refl
unit_is_short on = refl
unit_is_short off = refl
unit_is_short error = refl
unit_is_short reserved = refl
unit_is_short indicator = refl
unit_is_short (text bytes) = refl
