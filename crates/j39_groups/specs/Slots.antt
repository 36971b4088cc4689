-- The slots of parameters, and the raw values of numbers.
use Rattle.std.specs.Prelude.{◌≡◌, ◌-◌, ◌==◌, ◌+ℤ◌, ◌*ℤ◌, ℕ, ℤ, pos, List, Option, Some, None, if◌then◌else◌, slice_get, IsSomeAnd, IsTrue}
use Rattle.std.specs.Option.{option_map}
use Rattle.std.specs.List.{filter_map, Contains}
use Rattle.j39_groups.specs.Value.{SlotRecord}
use Rattle.j39_groups.specs.Row.{FieldRecord, number_field, bits_field, full_field, switch_field, text_field, texts_field, RowRecord}
use Rattle.j39_groups.specs.Table.{the_table}
use Rattle.j39_groups.specs.Ranges.{top_byte, is_valid}
use Rattle.j39_groups.specs.Readings.{raw_number}

-- how many bytes a number has, and its slot
pub record SizedSlotRecord : Type 0 where
  pub count : ℕ
  pub slot : SlotRecord

abbrev pub slot_in : FieldRecord → Option SizedSlotRecord
slot_in (number_field first last slot) = Some (record { count = last - (first - 1); slot = slot })
slot_in (bits_field byte low count slot) = None
slot_in (full_field byte low count is_signed slot) = None
slot_in (switch_field byte low high) = None
slot_in (text_field part) = None
slot_in (texts_field byte count) = None

-- the slot of this parameter in a row
abbrev pub slot_at : ℕ → RowRecord → Option SizedSlotRecord
slot_at spn row = if row.spn == spn then slot_in row.field else None

-- the slot of this parameter in the table, where it has one
unfoldable pub sized_slot_of_spn : ℕ → Option SizedSlotRecord
sized_slot_of_spn spn = slice_get (filter_map (slot_at spn) the_table) 0

abbrev pub slot_of_spn : ℕ → Option SlotRecord
slot_of_spn spn = option_map (λ sized. sized.slot) (sized_slot_of_spn spn)

-- so many steps above the offset are the value
pub record IsAt (slot : SlotRecord) (value : ℤ) (raw : ℕ) : Type 0 where
  pub at : pos raw *ℤ slot.step +ℤ slot.offset ≡ value

-- a valid raw number of so many bytes with this value
pub record IsRawIn (sized : SizedSlotRecord) (value : ℤ) (raw : ℕ) : Type 0 where
  pub valid : IsTrue (is_valid (top_byte sized.count raw))
  pub at : IsAt sized.slot value raw

abbrev pub IsRawOf : ℕ → ℤ → ℕ → Type 0
IsRawOf spn value raw = IsSomeAnd (sized_slot_of_spn spn) (λ sized. IsRawIn sized value raw)

-- the bytes of the field hold this raw number
abbrev pub HoldsIn : FieldRecord → List ℕ → ℕ → Type 0
HoldsIn (number_field first last slot) bytes raw = raw_number first last bytes ≡ Some raw
HoldsIn (bits_field byte low count slot) bytes raw = ⊥
HoldsIn (full_field byte low count is_signed slot) bytes raw = ⊥
HoldsIn (switch_field byte low high) bytes raw = ⊥
HoldsIn (text_field part) bytes raw = ⊥
HoldsIn (texts_field byte count) bytes raw = ⊥

-- the payload of the group holds this raw number of the parameter
pub record Holds (pgn spn : ℕ) (bytes : List ℕ) (raw : ℕ) : Type 0 where
  pub row : RowRecord
  pub listed : Contains the_table row
  pub group : row.pgn ≡ pgn
  pub parameter : row.spn ≡ spn
  pub held : HoldsIn row.field bytes raw
