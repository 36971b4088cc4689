-- The rows that a line of a table may say.
use Rattle.std.specs.Prelude.{◌≡◌, ◌+◌, ◌-◌, ◌*◌, ◌^◌, ◌<◌, ◌≤◌, ◌++◌, ◌∷◌, ℕ, List, [], true, false, codes, decimal, pos, unsigned_abs}
use Rattle.j39_groups.specs.Printed.{place_text}
use Rattle.j39_groups.specs.Readings.{is_heard_group, is_network_group}
use Rattle.j39_groups.specs.Row.{FieldRecord, number_field, bits_field, full_field, switch_field, text_field, texts_field, RowRecord}
use Rattle.j39_groups.specs.States.{called, states_part}
use Rattle.j39_groups.specs.Value.{SlotRecord}
use Rattle.j39_groups.specs.ValueText.{scaled_text}
use Rattle.j39_table.specs.Positions.{IsGoodBits, IsGoodBytes}
use Rattle.j39_table.specs.States.{AreGoodStates, states_limit}
use Rattle.j39_table.specs.Words.{IsName, IsWord}

-- a number of 18 bits, of a group that can be heard and that is none of the network's
pub record IsGoodGroup (pgn : ℕ) : Type 0 where
  pub fits : pgn < 2 ^ 18
  pub free : is_network_group pgn ≡ false
  pub heard : is_heard_group pgn ≡ true

-- the step is positive, and no value of so many bits needs more than 63 bits and a sign
pub record IsGoodScale (bits : ℕ) (slot : SlotRecord) : Type 0 where
  pub step : ℕ
  pub step_is : slot.step ≡ pos step
  pub step_starts : 0 < step
  pub fits : step * (2 ^ bits - 1) + unsigned_abs slot.offset < 2 ^ 63
  pub places : slot.places ≤ 15
  pub unit : IsWord slot.unit

-- two bits of one byte
pub record IsGoodSwitch (byte low high : ℕ) : Type 0 where
  pub byte_starts : 0 < byte
  pub byte_ends : byte ≤ 255
  pub starts : 0 < low
  pub two : high ≡ low + 1
  pub ends : high ≤ 8

-- how many parts may follow isn't said in a line: it is 31
abbrev pub IsGoodField : FieldRecord → Type 0
IsGoodField (number_field first last slot) = IsGoodBytes first last × IsGoodScale (8 * (last - first + 1)) slot
IsGoodField (bits_field byte low count slot) = IsGoodBits byte low count × IsGoodScale count slot
IsGoodField (full_field byte low count is_signed slot) = IsGoodBits byte low count × IsGoodScale count slot
IsGoodField (switch_field byte low high) = IsGoodSwitch byte low high
IsGoodField (text_field part) = (0 < part) × (part ≤ 255)
IsGoodField (texts_field byte count) = (0 < byte) × (byte ≤ 255) × (count ≡ 31)

pub record IsGoodRow (row : RowRecord) : Type 0 where
  pub pgn : IsGoodGroup row.pgn
  pub group : IsWord row.group
  pub spn : row.spn < 2 ^ 19
  pub field : IsGoodField row.field
  pub name : IsName (called row.name)
  pub states : AreGoodStates (states_limit row.field) (states_part row.name)

-- ---- the columns of a row

abbrev pub slot_columns : SlotRecord → List (List ℕ)
slot_columns slot = scaled_text slot.places slot.step ∷ scaled_text slot.places slot.offset ∷ slot.unit ∷ []

-- dashes for what is no number
abbrev pub no_scale : List (List ℕ)
no_scale = codes "-" ∷ codes "-" ∷ codes "-" ∷ []

abbrev pub scale_columns : FieldRecord → List (List ℕ)
scale_columns (number_field first last slot) = slot_columns slot
scale_columns (bits_field byte low count slot) = slot_columns slot
scale_columns (full_field byte low count is_signed slot) = slot_columns slot
scale_columns (switch_field byte low high) = no_scale
scale_columns (text_field part) = no_scale
scale_columns (texts_field byte count) = no_scale

-- where it stands and how it is read
abbrev pub field_columns : FieldRecord → List (List ℕ)
field_columns field = place_text field ∷ scale_columns field

abbrev pub columns_of : RowRecord → List (List ℕ)
columns_of row = decimal row.pgn ∷ row.group ∷ decimal row.spn ∷ (field_columns row.field ++ (called row.name ∷ states_part row.name ∷ []))
