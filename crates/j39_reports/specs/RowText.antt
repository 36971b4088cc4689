-- The row of a summary (own).
use Rattle.std.specs.Prelude.{◌∷◌, ℕ, List, [], Option, codes}
use Rattle.std.specs.List.{flat_map}
use Rattle.j39_frame.specs.declared.origin.Origin.{Origin}
use Rattle.j39_groups.specs.Names.{name_in, state_in}
use Rattle.j39_groups.specs.Row.{RowRecord}
use Rattle.j39_groups.specs.Value.{ValueRecord, number, on, off, error, reserved, indicator, text}
use Rattle.j39_groups.specs.ValueText.{scaled_text}
use Rattle.j39_listen.specs.Report.{Entry}
use Rattle.j39_listen.specs.declared.format.Format.{Format}
use Rattle.j39_rows.specs.Row.{dash, name_column}
use Rattle.j39_reports.specs.Summary.{Range, Row, origin_of}
use Rattle.j39_rows.specs.Row as rows
use Rattle.j39_rows.specs.Row.{CellRecord, ColumnRecord, HeadRecord, address_cell, address_word, beside_lines, digits, if_any, in_all, in_lines, number_cell, or_nothing, plain, row_text, seconds_cell, sent, utc_cell, word}

-- the names of a record's columns
abbrev pub summary_columns : List ℕ
summary_columns =
    codes "address,destination,name,pgn,spn,parameter,values,words,absent,first_stamp,first_utc,last_stamp,last_utc,least,most,unit,first,last,state\r\n"

-- what the row of an origin begins with: address and destination, NAME, PGN and SPN
abbrev pub origin_columns : Option ℕ → Option ℕ → ℕ → ℕ → List ColumnRecord
origin_columns destination name pgn spn =
    in_all (codes "destination") (if_any (codes ">")) (or_nothing address_cell destination) ∷ name_column name
    ∷ in_all (codes "pgn") dash (number_cell pgn) ∷ in_all (codes "spn") dash (number_cell spn) ∷ []

abbrev pub origin_head : Entry → HeadRecord
origin_head e = record {
  name = codes "address";
  first = address_word e.address;
  columns = origin_columns e.destination e.name e.pgn e.spn;
}

-- a number without its unit, a word, or a text
abbrev pub value_cell : ValueRecord → CellRecord
value_cell (number n slot) = plain (digits (scaled_text slot.places n))
value_cell on = plain (word (codes "on"))
value_cell off = plain (word (codes "off"))
value_cell error = plain (word (codes "error"))
value_cell reserved = plain (word (codes "reserved"))
value_cell indicator = plain (word (codes "indicator"))
value_cell (text bytes) = sent bytes

-- the bounds of the numbers, and their unit
abbrev pub least_cell : Range → CellRecord
least_cell r = value_cell (number r.least r.slot)

abbrev pub most_cell : Range → CellRecord
most_cell r = value_cell (number r.most r.slot)

abbrev pub unit_cell : Range → CellRecord
unit_cell r = rows.text r.slot.unit

-- what the table calls the parameter, in lines before the state; how many values, how many of them words, how often it was not
-- available; the moments of the first and the last; the range of the numbers; the first value, the last, and its state
abbrev pub row_columns_with : CellRecord → ℕ → Row → CellRecord → List ColumnRecord
row_columns_with name absent row state =
    beside_lines (codes "parameter") name
    ∷ in_all (codes "values") dash (number_cell row.count) ∷ in_all (codes "words") dash (number_cell row.words)
    ∷ in_all (codes "absent") dash (number_cell absent)
    ∷ in_all (codes "first_stamp") dash (seconds_cell row.first.stamp) ∷ beside_lines (codes "first_utc") (utc_cell row.first.stamp)
    ∷ in_all (codes "last_stamp") dash (seconds_cell row.last.stamp) ∷ beside_lines (codes "last_utc") (utc_cell row.last.stamp)
    ∷ in_all (codes "least") dash (or_nothing least_cell row.range) ∷ in_all (codes "most") dash (or_nothing most_cell row.range)
    ∷ in_all (codes "unit") dash (or_nothing unit_cell row.range)
    ∷ in_all (codes "first") dash (value_cell row.first.value) ∷ in_all (codes "last") dash (value_cell row.last.value)
    ∷ in_lines dash name ∷ in_all (codes "state") (if_any (codes " = ")) state ∷ []

abbrev pub row_columns : List RowRecord → ℕ → Row → List ColumnRecord
row_columns groups absent row =
    row_columns_with (or_nothing rows.text (name_in groups row.first.pgn row.first.spn)) absent row
    (or_nothing rows.text (state_in groups row.first.pgn row.first.spn row.last.value))

abbrev pub row_in : Format → List RowRecord → ℕ → Row → List ℕ
row_in form groups absent row = row_text form (origin_head row.first) (row_columns groups absent row)

-- so often each origin was not available
abbrev pub summary_text : Format → List RowRecord → (Origin → ℕ) → List Row → List ℕ
summary_text form groups absent rows = flat_map (λ row. row_in form groups (absent (origin_of row.first)) row) rows
