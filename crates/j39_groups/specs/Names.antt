-- What a table calls its groups (PGN), their parameters (SPN) and the states of these.
use Rattle.std.specs.Prelude.{◌==◌, ◌&&◌, ℕ, List, Option, Some, None, find, if◌then◌else◌, option_map, slice_get}
use Rattle.std.specs.List.{filter_map}
use Rattle.std.specs.Option.{option_and_then}
use Rattle.j39_groups.specs.Row.{RowRecord}
use Rattle.j39_groups.specs.States.{called, state_by}
use Rattle.j39_groups.specs.Value.{ValueRecord}

abbrev pub group_at : ℕ → RowRecord → Option (List ℕ)
group_at pgn row = if row.pgn == pgn then Some row.group else None

-- a group, as its first row does
unfoldable pub group_name_in : List RowRecord → ℕ → Option (List ℕ)
group_name_in table pgn = slice_get (filter_map (group_at pgn) table) 0

-- a parameter of whatever group, as its first row does
unfoldable pub parameter_name : List RowRecord → ℕ → Option (List ℕ)
parameter_name rows spn = option_map (λ row. called row.name) (find (λ row. row.spn == spn) rows)

abbrev pub row_at : ℕ → ℕ → RowRecord → Option RowRecord
row_at pgn spn row = if row.pgn == pgn && row.spn == spn then Some row else None

-- the first row of a parameter of a group
abbrev pub row_in : List RowRecord → ℕ → ℕ → Option RowRecord
row_in table pgn spn = slice_get (filter_map (row_at pgn spn) table) 0

-- a parameter of a group, as its first row does
abbrev pub name_in : List RowRecord → ℕ → ℕ → Option (List ℕ)
name_in table pgn spn = option_map (λ row. called row.name) (row_in table pgn spn)

-- the state of a value of such a parameter, as that row does
abbrev pub state_in : List RowRecord → ℕ → ℕ → ValueRecord → Option (List ℕ)
state_in table pgn spn value = option_and_then (state_by value) (row_in table pgn spn)
