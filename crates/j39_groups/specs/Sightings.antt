-- What a payload says of each parameter of a group: its values, or that its number is not available (J1939-71, 5.1.4).
use Rattle.std.specs.Prelude.{◌==◌, ◌&&◌, ◌++◌, ◌∷◌, [], ℕ, Bool, false, List, Option, None, Some, if◌then◌else◌, length, map, nat_le}
use Rattle.std.specs.List.{filter_map, flat_map}
use Rattle.j39_groups.specs.Readings.{group_rows, last_byte, readings_at, values_at}
use Rattle.j39_groups.specs.Row.{FieldRecord, number_field, bits_field, full_field, switch_field, text_field, texts_field, RowRecord}
use Rattle.j39_groups.specs.Value.{ReadingRecord}

-- a reading, or the parameter (SPN) whose number is not available
pub data SightingRecord : Type 0 where
  told : ReadingRecord → SightingRecord
  absent : ℕ → SightingRecord

-- a number or a switch has all its bits within the payload; a text is no number
unfoldable pub holds_number : List ℕ → FieldRecord → Bool
holds_number bytes (number_field first last slot) = nat_le last (length bytes)
holds_number bytes (bits_field byte low count slot) = nat_le (last_byte byte low count) (length bytes)
holds_number bytes (full_field byte low count is_signed slot) = nat_le (last_byte byte low count) (length bytes)
holds_number bytes (switch_field byte low high) = nat_le byte (length bytes)
holds_number bytes (text_field part) = false
holds_number bytes (texts_field byte count) = false

-- its bits are there, and they give no value
unfoldable pub is_absent : List ℕ → FieldRecord → Bool
is_absent bytes field = holds_number bytes field && length (values_at bytes field) == 0

abbrev pub absences_at : List ℕ → RowRecord → List ℕ
absences_at bytes row = if is_absent bytes row.field then row.spn ∷ [] else []

-- the parameters of a group whose numbers are not available
unfoldable pub absences_in : List RowRecord → ℕ → List ℕ → List ℕ
absences_in table pgn bytes = flat_map (absences_at bytes) (group_rows pgn table)

unfoldable pub sightings_at : List ℕ → RowRecord → List SightingRecord
sightings_at bytes row = map told (readings_at bytes row) ++ map absent (absences_at bytes row)

-- both, in the table's order
unfoldable pub sightings_in : List RowRecord → ℕ → List ℕ → List SightingRecord
sightings_in table pgn bytes = flat_map (sightings_at bytes) (group_rows pgn table)

abbrev pub told_by : SightingRecord → Option ReadingRecord
told_by (told reading) = Some reading
told_by (absent spn) = None

abbrev pub absent_by : SightingRecord → Option ℕ
absent_by (told reading) = None
absent_by (absent spn) = Some spn

-- the readings among them, and the parameters that are not available
abbrev pub told_in : List SightingRecord → List ReadingRecord
told_in sightings = filter_map told_by sightings

abbrev pub absent_in : List SightingRecord → List ℕ
absent_in sightings = filter_map absent_by sightings
