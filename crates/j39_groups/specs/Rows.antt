-- What private contracts know of a table's rows.
use Rattle.std.specs.Prelude.{◌≡◌, ◌<◌, ◌≤◌, ◌==◌, ◌&&◌, ◌||◌, ◌^◌, not, ℕ, List, [], ◌∷◌, Bool, true, length, nat_lt, nat_le, if◌then◌else◌, slice_index_or, take}
use Rattle.std.specs.List.{list_all, list_any, sum_by}
use Rattle.j39_groups.specs.declared.by_number.SizedScale.{SizedScale}
use Rattle.j39_groups.specs.declared.field.Field.{Field}
use Rattle.j39_groups.specs.declared.field.Field.TheVariants.{Number, Bits, Full, Switch, Text, Texts}
use Rattle.j39_groups.specs.declared.row.Row.{Row}
use Rattle.j39_groups.specs.declared.slot.Slot.{Slot}
use Rattle.j39_groups.specs.Fields.{is_sound}
use Rattle.j39_groups.specs.Models.{scale_record}
use Rattle.j39_groups.specs.Readings.{is_heard_group, is_network_group}
use Rattle.j39_groups.specs.Ready.{is_prepared}
use Rattle.j39_groups.specs.Slots.{SizedSlotRecord}

-- the group is one that a table may list
abbrev pub is_listed_group : ℕ → Bool
is_listed_group pgn = nat_lt pgn (2 ^ 18) && (not (is_network_group pgn) && is_heard_group pgn)

-- a row may stand in a table, and what its line takes is prepared
unfoldable pub is_row : Row → Bool
is_row row = is_sound row.field && (is_listed_group row.pgn && is_prepared row.prepared row.pgn row.spn row.field)

-- between two rows of a group stand rows of this group alone
abbrev pub StandTogether : List Row → Type 0
StandTogether rows = (i j k : ℕ) (d : Row) → i ≤ j → j ≤ k → k < length rows
    → (slice_index_or rows i d).pgn ≡ (slice_index_or rows k d).pgn → (slice_index_or rows j d).pgn ≡ (slice_index_or rows i d).pgn

-- ---- the built-in table alone

abbrev pub sized_slot_record : SizedScale → SizedSlotRecord
sized_slot_record n = record { count = n.count; slot = scale_record n.scale }

pub record IsSoundCount (count : ℕ) (scale : Slot) : Type 0 where
  pub some : 0 < count
  pub narrow : count ≤ 4
  pub rises : 0 < scale.step

-- a number's step rises
abbrev pub is_rising : Field → Bool
is_rising (Number first last scale) = nat_lt 0 scale.step
is_rising (Bits byte low count scale) = true
is_rising (Full byte low count is_signed scale) = true
is_rising (Switch byte low high) = true
is_rising (Text part) = true
is_rising (Texts byte count) = true

-- how many values a field has at most, and a group's rows in all
abbrev pub most_values : Field → ℕ
most_values (Number first last scale) = 1
most_values (Bits byte low count scale) = 1
most_values (Full byte low count is_signed scale) = 1
most_values (Switch byte low high) = 1
most_values (Text part) = 1
most_values (Texts byte count) = count

abbrev pub most_values_of : ℕ → List Row → ℕ
most_values_of pgn rows = sum_by (λ row. if row.pgn == pgn then most_values row.field else 0) rows

-- a row's step rises, and its group has 32 values at most
abbrev pub is_built_in_row : List Row → Row → Bool
is_built_in_row rows row = is_rising row.field && nat_le (most_values_of row.pgn rows) 32

abbrev pub is_built_in : List Row → Bool
is_built_in rows = list_all (is_built_in_row rows) rows

abbrev pub is_of : ℕ → Row → Bool
is_of pgn row = row.pgn == pgn

abbrev pub is_not_of : ℕ → Row → Bool
is_not_of pgn row = not (is_of pgn row)

-- behind each row stands one of its group, or none does
abbrev pub are_together : List Row → Bool
are_together [] = true
are_together (row ∷ rows) = (list_any (is_of row.pgn) (take 1 rows) || list_all (is_not_of row.pgn) rows) && are_together rows
