-- The object of an entry of a report (RFC 8259; own): a line for each, its members in this order.
use Rattle.std.specs.Prelude.{◌++◌, ℕ, List, Option, None, Some, codes, decimal, option_map}
use Rattle.j39_groups.specs.Names.{group_name_in, name_in, state_in}
use Rattle.j39_groups.specs.Row.{RowRecord}
use Rattle.j39_groups.specs.Value.{ValueRecord, number, on, off, error, reserved, indicator, text}
use Rattle.j39_groups.specs.ValueText.{magnitude_text, scaled_text}
use Rattle.j39_rows.specs.Members.{address_string, in_marks, name_string, or_null}
use Rattle.j39_listen.specs.Report.{Entry}
use Rattle.j39_reports.specs.Json.{bytes_member, string_or_null}
use Rattle.j39_rows.specs.Json.{string_text}
use Rattle.j39_rows.specs.Utc.{utc_text}

-- a moment: the seconds of a stamp, a number, which has no zeros before it; and the same in UTC
unfoldable pub moment_members : ℕ → List ℕ
moment_members stamp = codes "{\"stamp\":" ++ magnitude_text 6 stamp ++ codes ",\"utc\":" ++ in_marks (utc_text stamp)

-- an address, the destination, and the NAME at the address
unfoldable pub sender_members : ℕ → Option ℕ → Option ℕ → List ℕ
sender_members address destination name =
    codes ",\"address\":" ++ address_string address
    ++ codes ",\"destination\":" ++ or_null (option_map address_string destination)
    ++ codes ",\"name\":" ++ or_null (option_map name_string name)

-- what the objects of a message begin with: these, and the PGN
unfoldable pub opening_text : ℕ → ℕ → Option ℕ → Option ℕ → ℕ → List ℕ
opening_text stamp address destination name pgn =
    moment_members stamp ++ sender_members address destination name ++ codes ",\"pgn\":" ++ decimal pgn

-- what the table calls the group
abbrev pub group_member : Option (List ℕ) → List ℕ
group_member group = codes ",\"group\":" ++ string_or_null group

-- the parameter, and what the table calls it
unfoldable pub parameter_members : ℕ → Option (List ℕ) → List ℕ
parameter_members spn parameter =
    codes ",\"spn\":" ++ decimal spn ++ codes ",\"parameter\":" ++ string_or_null parameter

-- a number with the digits of the report, a word, or a text
unfoldable pub value_json : ValueRecord → List ℕ
value_json (number n slot) = scaled_text slot.places n
value_json on = codes "\"on\""
value_json off = codes "\"off\""
value_json error = codes "\"error\""
value_json reserved = codes "\"reserved\""
value_json indicator = codes "\"indicator\""
value_json (text bytes) = string_text bytes ++ bytes_member bytes

-- a number has a unit
unfoldable pub unit_in : ValueRecord → Option (List ℕ)
unit_in (number n slot) = Some slot.unit
unit_in value = None

-- behind a value its unit, what the table calls its state, and the end of the line
abbrev pub behind_members : Option (List ℕ) → Option (List ℕ) → List ℕ
behind_members unit state = codes ",\"unit\":" ++ string_or_null unit ++ codes ",\"state\":" ++ string_or_null state ++ codes "}\n"

-- the value, and these
unfoldable pub value_members : ValueRecord → Option (List ℕ) → List ℕ
value_members value state = codes ",\"value\":" ++ value_json value ++ behind_members (unit_in value) state

abbrev pub entry_object : List RowRecord → Entry → List ℕ
entry_object groups e =
    (opening_text e.stamp e.address e.destination e.name e.pgn ++ group_member (group_name_in groups e.pgn))
    ++ (parameter_members e.spn (name_in groups e.pgn e.spn)
    ++ value_members e.value (state_in groups e.pgn e.spn e.value))
