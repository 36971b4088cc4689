-- What contracts see of the code's types.
use Rattle.std.specs.Prelude.{List, [], pos}
use Rattle.j39_groups.specs.declared.field.Field.{Field}
use Rattle.j39_groups.specs.declared.field.Field.TheVariants.{Number as NumberField, Bits, Full, Switch, Text as TextField, Texts}
use Rattle.j39_groups.specs.declared.listed.LentRows.{LentRows}
use Rattle.j39_groups.specs.declared.listed.Listed.{Listed}
use Rattle.j39_groups.specs.declared.listed.Listed.TheVariants.{Lent, Kept}
use Rattle.j39_groups.specs.declared.row.Row.{Row}
use Rattle.j39_groups.specs.declared.slot.Slot.{Slot}
use Rattle.j39_groups.specs.declared.short.Short.{Short}
use Rattle.j39_groups.specs.declared.short.Short.TheVariants.{Number as ShortNumber, On as ShortOn, Off as ShortOff, Error as ShortError, Reserved as ShortReserved, Indicator as ShortIndicator}
use Rattle.j39_groups.specs.declared.value.Reading.{Reading}
use Rattle.j39_groups.specs.declared.value.Value.{Value}
use Rattle.j39_groups.specs.declared.value.Value.TheVariants.{Number, On, Off, Error, Reserved, Indicator, Text}
use Rattle.j39_groups.specs.Row.{FieldRecord, number_field, bits_field, full_field, switch_field, text_field, texts_field, RowRecord}
use Rattle.j39_groups.specs.Value.{SlotRecord, ValueRecord, number, on, off, error, reserved, indicator, text, ReadingRecord}
use Rattle.j39_memory.specs.Items.{items_of}
use Rattle.j39_memory.specs.declared.list.List.{List as RowList}

abbrev pub scale_record : Slot → SlotRecord
scale_record scale = record {
  step = pos scale.step;
  offset = scale.offset;
  places = scale.places;
  unit =
      scale.unit.now;
}

abbrev pub value_of : Value → ValueRecord
value_of (Number n scale) = number n (scale_record scale)
value_of On = on
value_of Off = off
value_of Error = error
value_of Reserved = reserved
value_of Indicator = indicator
value_of (Text bytes) = text bytes.now

-- of a number with this slot
abbrev pub short_value : SlotRecord → Short → ValueRecord
short_value slot (ShortNumber n) = number n slot
short_value slot ShortOn = on
short_value slot ShortOff = off
short_value slot ShortError = error
short_value slot ShortReserved = reserved
short_value slot ShortIndicator = indicator

abbrev pub reading_of : Reading → ReadingRecord
reading_of reading = record { spn = reading.spn; value = value_of reading.value }

abbrev pub field_record : Field → FieldRecord
field_record (NumberField first last scale) = number_field first last (scale_record scale)
field_record (Bits byte low count scale) = bits_field byte low count (scale_record scale)
field_record (Full byte low count is_signed scale) = full_field byte low count is_signed (scale_record scale)
field_record (Switch byte low high) = switch_field byte low high
field_record (TextField part) = text_field part
field_record (Texts byte count) = texts_field byte count

-- that of what is no number, on which nothing hangs
abbrev pub no_slot : SlotRecord
no_slot = record { step = pos 0; offset = pos 0; places = 0; unit = [] }

-- the slot of the numbers in a field
abbrev pub field_slot : Field → SlotRecord
field_slot (NumberField first last scale) = scale_record scale
field_slot (Bits byte low count scale) = scale_record scale
field_slot (Full byte low count is_signed scale) = scale_record scale
field_slot (Switch byte low high) = no_slot
field_slot (TextField part) = no_slot
field_slot (Texts byte count) = no_slot

abbrev pub row_record : Row → RowRecord
row_record row = record {
  pgn = row.pgn;
  group = row.group.now;
  spn = row.spn;
  name =
      row.name.now;
  field = field_record row.field;
}

abbrev pub listed_rows : Listed LentRows (RowList Row) → List Row
listed_rows (Lent lent) = lent.rows.now
listed_rows (Kept rows) = items_of rows
