-- The record of an entry of a report (RFC 4180; own).
use Rattle.std.specs.Prelude.{◌++◌, ◌∷◌, ℕ, List, [], Option, codes, decimal, unwrap_or}
use Rattle.j39_reports.specs.Columns.{heard_fields, last_field}
use Rattle.j39_io.specs.Records.{comma, later_text}
use Rattle.j39_groups.specs.Names.{group_name_in, name_in, state_in}
use Rattle.j39_groups.specs.Row.{RowRecord}
use Rattle.j39_groups.specs.Value.{ValueRecord}
use Rattle.j39_groups.specs.ValueText.{unit_of, value_field}
use Rattle.j39_listen.specs.Report.{Entry}

-- the names of the columns
abbrev pub header_text : List ℕ
header_text = codes "stamp,utc,address,destination,name,pgn,group,spn,parameter,value,unit,state\r\n"

-- the fields that the records of a message begin with: the stamp, the same in UTC, address, destination, NAME and PGN
abbrev pub begin_text : ℕ → ℕ → Option ℕ → Option ℕ → ℕ → List ℕ
begin_text stamp address destination name pgn =
    heard_fields stamp address destination name ++ codes "," ++ decimal pgn

-- what the table calls a group and a parameter of it; nothing where it lists none
abbrev pub group_called : List RowRecord → ℕ → List ℕ
group_called groups pgn = unwrap_or (group_name_in groups pgn) []

abbrev pub parameter_called : List RowRecord → ℕ → ℕ → List ℕ
parameter_called groups pgn spn = unwrap_or (name_in groups pgn spn) []

-- the fields up to the value: those and what the group is called, the parameter (SPN), and what it is called
unfoldable pub named_fields : List ℕ → ℕ → List ℕ → List ℕ
named_fields begun spn parameter = begun ++ (comma ∷ decimal spn) ++ later_text parameter

-- what the table calls the state of a value; nothing where it has no name
abbrev pub state_called : List RowRecord → ℕ → ℕ → ValueRecord → List ℕ
state_called groups pgn spn value = unwrap_or (state_in groups pgn spn value) []

-- the value, its unit, its state, and the end of the line
unfoldable pub value_fields : ValueRecord → List ℕ → List ℕ
value_fields value state = (comma ∷ value_field value) ++ (later_text (unit_of value) ++ last_field state)

-- the record of an entry
abbrev pub entry_record : List RowRecord → Entry → List ℕ
entry_record groups e =
    named_fields (begin_text e.stamp e.address e.destination e.name e.pgn ++ later_text (group_called groups e.pgn)) e.spn
    (parameter_called groups e.pgn e.spn) ++ value_fields e.value (state_called groups e.pgn e.spn e.value)
