-- The field that columns of a line say.
use Rattle.std.specs.Prelude.{◌≡◌, ◌==◌, ◌+◌, ◌<◌, ◌&&◌, ℕ, List, Option, Some, None, Result, MatchResult, if◌then◌else◌, length, nat_lt}
use Rattle.j39_groups.specs.Printed.{place_text}
use Rattle.j39_groups.specs.Models.{field_record, scale_record}
use Rattle.j39_groups.specs.declared.field.Field.{Field}
use Rattle.j39_groups.specs.declared.slot.Slot.{Slot}
use Rattle.j39_groups.specs.Row.{FieldRecord, number_field, bits_field, full_field, switch_field, text_field, texts_field}
use Rattle.j39_table.specs.Agreement.{AreColumnsOf, IsWrongAfter}
use Rattle.j39_table.specs.Faults.{column_of}
use Rattle.j39_table.specs.Positions.{text_of_place}
use Rattle.j39_table.specs.Rows.{IsGoodField, IsGoodScale, field_columns, slot_columns}
use Rattle.j39_table.specs.declared.fault.RowFault.{RowFault}
use Rattle.j39_table.specs.declared.position.Position.{Position}
use Rattle.j39_table.specs.declared.position.Position.TheVariants.{Bytes, Bits, Full, Part, Texts}

-- where a field stands
abbrev pub place_of : FieldRecord → Position
place_of (number_field first last slot) = Bytes first last
place_of (bits_field byte low count slot) = Bits byte low count
place_of (full_field byte low count is_signed slot) = Full byte low count is_signed
place_of (switch_field byte low high) = Bits byte low 2
place_of (text_field part) = Part part
place_of (texts_field byte count) = Texts byte

-- the field of a place without a scale
abbrev pub unscaled_of : Position → Option FieldRecord
unscaled_of (Bytes first last) = None
unscaled_of (Bits byte low count) = if count == 2 && nat_lt low 8 then Some (switch_field byte low (low + 1)) else None
unscaled_of (Full byte low count is_signed) = None
unscaled_of (Part part) = Some (text_field part)
unscaled_of (Texts byte) = Some (texts_field byte 31)

-- no good field has the text of this place and another place
abbrev pub IsAlone : Position → Type 0
IsAlone place = (field : FieldRecord) → IsGoodField field → place_text field ≡ text_of_place place
    → place_of field ≡ place

-- the fault names the wrong one of the columns from this one on
pub record IsFaultFrom {T : Type 0} (IsGood : T → Type 0) (columns : T → List (List ℕ)) (start : ℕ)
    (texts : List (List ℕ)) (fault : RowFault) : Type 0 where
  pub count : ℕ
  pub column : column_of fault ≡ start + count
  pub within : count < length texts
  pub wrong : IsWrongAfter IsGood columns texts count

abbrev pub HasScale : ℕ → List (List ℕ) → Result Slot RowFault → Type 0
HasScale bits texts result =
    MatchResult result (λ scale. AreColumnsOf (IsGoodScale bits) slot_columns texts (scale_record scale))
    (λ fault. IsFaultFrom (IsGoodScale bits) slot_columns 4 texts fault)

abbrev pub HasField : List (List ℕ) → Result Field RowFault → Type 0
HasField texts result =
    MatchResult result (λ field. AreColumnsOf IsGoodField field_columns texts (field_record field))
    (λ fault. IsFaultFrom IsGoodField field_columns 3 texts fault)
