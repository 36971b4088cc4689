-- The record of a reading of a message.
use Rattle.j39_reports.proofs.Common.{◌≡◌, ◌++◌, ◌∷◌, [], ℕ, List, append_assoc, decimal, later_text, pgn_raw, refl, true, unwrap_or, value_field, RowRecord, ValueRecord, Hearing, entry_of}
use Rattle.j39_groups.specs.Value.{number, on, off, error, reserved, indicator, text}
use Rattle.j39_groups.specs.ValueText.{unit_of}
use Rattle.j39_reports.specs.Columns.{last_field}
use Rattle.j39_reports.specs.EntryObject.{unit_in}
use Rattle.j39_reports.specs.EntryText.{entry_record, group_called, named_fields, parameter_called, state_called, value_fields}
use Rattle.j39_reports.specs.Forwards.{head_text}
use Rattle.j39_reports.specs.MessageRecords.{IsBegun, begun_fields}
use Rattle.j39_reports.specs.declared.head.Head.{Head}
use Rattle.j39_reports.specs.declared.report_records.records.Records.{Records}

-- what is written of a reading is the record of its entry
pub record_is : (groups : List RowRecord) (h : Hearing) (records : Records) → IsBegun groups h records → (spn : ℕ) (value : ValueRecord)
    → named_fields (begun_fields records.begin.now (group_called records.known.now.groups.now (pgn_raw records.pgn))) spn (parameter_called records.known.now.groups.now (pgn_raw records.pgn) spn)
    ++ value_fields value (state_called records.known.now.groups.now (pgn_raw records.pgn) spn value) ≡ entry_record groups (entry_of h (record { spn = spn; value = value }))
record_is groups h records is spn value = rw (is.by, is.pgn_is, is.begin_is) refl

regroup : (begun spn name bare behind : List ℕ)
    → begun ++ (((44 ∷ spn) ++ name ++ (44 ∷ [])) ++ (bare ++ behind)) ≡ (begun ++ (44 ∷ spn) ++ name) ++ ((44 ∷ bare) ++ behind)
regroup begun spn name bare behind = simp append_assoc refl

-- a number alone has a unit
unit_is : (value : ValueRecord) → unwrap_or (unit_in value) [] ≡ unit_of value
unfolding unit_in unit_of
unit_is (number n slot) = refl
unit_is on = refl
unit_is off = refl
unit_is error = refl
unit_is reserved = refl
unit_is indicator = refl
unit_is (text bytes) = refl

-- the record by its sides
pub record_by_sides : (begin : Head) (group parameter state : List ℕ) (spn : ℕ) (value : ValueRecord) → begin.has_group ≡ true → state ≡ []
    → head_text begin ++ (((44 ∷ decimal spn) ++ later_text parameter ++ (44 ∷ [])) ++ (value_field value ++ (later_text (unwrap_or (unit_in value) []) ++ last_field [])))
    ≡ named_fields (begun_fields begin group) spn parameter ++ value_fields value state
unfolding named_fields value_fields
record_by_sides begin group parameter state spn value has none =
    rw (has, none, unit_is value) (regroup (head_text begin) (decimal spn) (later_text parameter) (value_field value) (later_text (unit_of value) ++ last_field []))
