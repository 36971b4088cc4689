-- The object of a reading of a message.
use Rattle.j39_reports.proofs.Common.{◌≡◌, ◌++◌, ℕ, List, None, Option, append_assoc, codes, refl, true, name_in, pgn_raw, state_in, RowRecord, ValueRecord, Hearing, entry_of}
use Rattle.j39_groups.specs.Names.{group_name_in}
use Rattle.j39_reports.specs.EntryObject.{behind_members, entry_object, parameter_members, unit_in, value_json, value_members}
use Rattle.j39_reports.specs.Forwards.{head_text}
use Rattle.j39_reports.specs.MessageObjects.{IsOpened, opened}
use Rattle.j39_reports.specs.declared.head.Head.{Head}
use Rattle.j39_reports.specs.declared.report_objects.objects.Objects.{Objects}

-- what is written of a reading is the object of its entry
pub object_is : (groups : List RowRecord) (h : Hearing) (objects : Objects) → IsOpened groups h objects → (spn : ℕ) (value : ValueRecord)
    → opened objects.opening.now (group_name_in objects.known.now.groups.now (pgn_raw objects.pgn)) ++ (parameter_members spn (name_in objects.known.now.groups.now (pgn_raw objects.pgn) spn)
    ++ value_members value (state_in objects.known.now.groups.now (pgn_raw objects.pgn) spn value)) ≡ entry_object groups (entry_of h (record { spn = spn; value = value }))
object_is groups h objects is spn value = rw (is.by, is.pgn_is, is.opening_is) refl

regroup : (head parameter key json behind : List ℕ) → head ++ ((parameter ++ key) ++ (json ++ behind)) ≡ head ++ (parameter ++ (key ++ json ++ behind))
regroup head parameter key json behind = simp append_assoc refl

-- the object by its sides
pub object_by_sides : (o : Head) (group parameter state : Option (List ℕ)) (spn : ℕ) (value : ValueRecord) → o.has_group ≡ true → state ≡ None
    → head_text o ++ ((parameter_members spn parameter ++ codes ",\"value\":") ++ (value_json value ++ behind_members (unit_in value) None))
    ≡ opened o group ++ (parameter_members spn parameter ++ value_members value state)
unfolding value_members
object_by_sides o group parameter state spn value has none =
    rw (has, none) (regroup (head_text o) (parameter_members spn parameter) (codes ",\"value\":") (value_json value) (behind_members (unit_in value) None))
