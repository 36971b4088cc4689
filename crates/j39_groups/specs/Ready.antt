-- What is prepared for the line of a row.
use Rattle.std.specs.Prelude.{◌≡◌, ◌≤◌, ◌==◌, ◌&&◌, ⊤, ℕ, List, [], ◌∷◌, ◌++◌, Bool, true, false, Option, Some, None, drop, nat_le}
use Rattle.std.specs.Fmt.{digits_onto}
use Rattle.std.specs.Str.{bytes_eq}
use Rattle.j39_io.specs.Chars.{newline, space}
use Rattle.j39_groups.specs.declared.field.Field.{Field}
use Rattle.j39_groups.specs.declared.field.Field.TheVariants.{Number, Bits, Full, Switch, Text, Texts}
use Rattle.j39_groups.specs.declared.prepared.Ending.{Ending}
use Rattle.j39_groups.specs.declared.prepared.Prepared.{Prepared}
use Rattle.j39_groups.specs.declared.slot.Slot.{Slot}
use Rattle.j39_groups.specs.declared.short_text.ShortText.{ShortText}
use Rattle.j39_groups.specs.Value.{SlotRecord, ValueRecord, number, on, off, error, reserved, indicator, text}

abbrev pub short_text : ShortText → List ℕ
short_text short = drop short.from short.bytes

-- a number and a space; the digits are those of `decimal`, computed
abbrev pub number_and_space : ℕ → List ℕ
number_and_space n = digits_onto 64 10 false n [] ++ (space ∷ [])

-- a label is the group's number and a space, and the parameter's and a space
abbrev pub is_label : ShortText → ℕ → ℕ → Bool
is_label label pgn spn =
    nat_le label.from 16 && bytes_eq (short_text label) (number_and_space pgn ++ number_and_space spn)

-- an end has fifteen places at most
abbrev pub is_short_end : Ending → Bool
is_short_end end = nat_le end.text.from 16 && nat_le end.places 15

-- it is a number's places, and a space, the unit and a newline
abbrev pub is_scale_end : Ending → Slot → Bool
is_scale_end end scale =
    is_short_end end && (end.places == scale.places
    && bytes_eq (short_text end.text) (space ∷ (scale.unit.now ++ (newline ∷ []))))

-- what stands behind a number is prepared, and no value is of a number in full or a text of the sender's
abbrev pub is_ready : Ending → Field → Bool
is_ready end (Number first last scale) = is_scale_end end scale
is_ready end (Bits byte low count scale) = is_scale_end end scale
is_ready end (Full byte low count is_signed scale) = false
is_ready end (Switch byte low high) = is_short_end end
is_ready end (Text part) = false
is_ready end (Texts byte count) = false

abbrev pub is_end : Option Ending → Field → Bool
is_end None field = true
is_end (Some end) field = is_ready end field

-- what a row's line takes beside its value is prepared, or nothing is
abbrev pub is_prepared : Option Prepared → ℕ → ℕ → Field → Bool
is_prepared None pgn spn field = true
is_prepared (Some prepared) pgn spn field = is_label prepared.label pgn spn && is_ready prepared.end field

pub record IsEnd (end : Ending) (slot : SlotRecord) : Type 0 where
  pub from : end.text.from ≤ 16
  pub few : end.places ≤ 15
  pub places : end.places ≡ slot.places
  pub text : short_text end.text ≡ space ∷ (slot.unit ++ (newline ∷ []))

-- the value is a word, or a number with this end
abbrev pub HasEnd : Ending → ValueRecord → Type 0
HasEnd end (number n slot) = IsEnd end slot
HasEnd end on = ⊤
HasEnd end off = ⊤
HasEnd end error = ⊤
HasEnd end reserved = ⊤
HasEnd end indicator = ⊤
HasEnd end (text bytes) = ⊥
