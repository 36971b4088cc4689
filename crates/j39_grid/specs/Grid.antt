-- The grid of a report (own): a row for each span of time in which a value came, with the last value of each parameter in it.
use Rattle.std.specs.Prelude.{◌==◌, ◌&&◌, ◌*◌, ◌/◌, ◌++◌, ◌∷◌, [], not, ℕ, Bool, true, false, List, codes, decimal, find, if◌then◌else◌, map, reverse, unwrap_or}
use Rattle.std.specs.List.{flat_map, list_any}
use Rattle.j39_groups.specs.Names.{parameter_name}
use Rattle.j39_groups.specs.Row.{RowRecord}
use Rattle.j39_groups.specs.Value.{ValueRecord, number, on, off, error, reserved, indicator, text}
use Rattle.j39_groups.specs.ValueText.{scaled_text}
use Rattle.j39_io.specs.Records.{later_text, line_end}
use Rattle.j39_listen.specs.Report.{Entry}
use Rattle.j39_listen.specs.declared.format.Format.{Format}
use Rattle.j39_rows.specs.Row.{CellRecord, ColumnRecord, HeadRecord, always, beside_lines, digits, in_all, nothing, or_nothing, plain, row_text, seconds, utc_cell, word}

-- in which form rows are written, how many microseconds a span has, and the parameters of the columns (SPN)
pub record Asked : Type 0 where
  pub form : Format
  pub every : ℕ
  pub spns : List ℕ

-- ---- what stands in a column

abbrev pub is_text : ValueRecord → Bool
is_text (text bytes) = true
is_text value = false

-- a value of a parameter that has a column; a text stands in none
abbrev pub has_column : List ℕ → Entry → Bool
has_column spns e = list_any (λ spn. spn == e.spn) spns && not (is_text e.value)

-- a number without its unit, on, off, or the word in a number's place
abbrev pub value_cell : ValueRecord → CellRecord
value_cell (number n slot) = plain (digits (scaled_text slot.places n))
value_cell on = plain (word (codes "on"))
value_cell off = plain (word (codes "off"))
value_cell error = plain (word (codes "error"))
value_cell reserved = plain (word (codes "reserved"))
value_cell indicator = plain (word (codes "indicator"))
value_cell (text bytes) = nothing

-- ---- spans

-- when the span of a stamp begins: spans follow one another from 1 January 1970 on
abbrev pub moment_of : ℕ → ℕ → ℕ
moment_of every stamp = stamp / every * every

-- a span: when it begins, and its values, the last first
pub record Span : Type 0 where
  pub moment : ℕ
  pub entries : List Entry

-- a value behind spans, the last of which is the first here: it stands in that one, where its stamp does, else in a new one
unfoldable pub behind : ℕ → List Span → Entry → List Span
behind every [] e = record { moment = moment_of every e.stamp; entries = e ∷ [] } ∷ []
behind every (s ∷ spans) e =
    if s.moment == moment_of every e.stamp then record { moment = s.moment; entries = e ∷ s.entries } ∷ spans
    else record { moment = moment_of every e.stamp; entries = e ∷ [] } ∷ (s ∷ spans)

-- the spans of values, both with the last first: neighbours whose stamps lie in one span stand together
unfoldable pub spans_back : ℕ → List Entry → List Span
spans_back every [] = []
spans_back every (e ∷ before) = behind every (spans_back every before) e

abbrev pub spans_of : Asked → List Entry → List Span
spans_of asked entries = spans_back asked.every (reverse entries)

-- ---- rows

-- the last value of a parameter in a span; nothing where none came
abbrev pub cell_in : List Entry → ℕ → CellRecord
cell_in entries spn = or_nothing (λ e. value_cell e.value) (find (λ e. e.spn == spn) entries)

-- in a line behind a space, where a dash stands for nothing; in objects under the parameter's number
abbrev pub column_at : ℕ × CellRecord → ColumnRecord
column_at (spn, cell) = in_all (decimal spn) (always (codes " ") (codes "-")) cell

abbrev pub column_in : List Entry → ℕ → ColumnRecord
column_in entries spn = column_at (spn, cell_in entries spn)

-- the moment at which the span begins, in seconds and in UTC
abbrev pub moment_head : ℕ → HeadRecord
moment_head moment =
    record { name = codes "stamp"; first = seconds moment; columns = beside_lines (codes "utc") (utc_cell moment) ∷ [] }

unfoldable pub span_text : Asked → Span → List ℕ
span_text asked s = row_text asked.form (moment_head s.moment) (map (column_in s.entries) asked.spns)

-- the spans in their order
abbrev pub grid_text : Asked → List Entry → List ℕ
grid_text asked entries = flat_map (span_text asked) (reverse (spans_of asked entries))

-- ---- the names of a record's columns

-- what the table calls the parameter, or else its number
abbrev pub called : List RowRecord → ℕ → List ℕ
called rows spn = unwrap_or (parameter_name rows spn) (decimal spn)

abbrev pub names_text : List RowRecord → List ℕ → List ℕ
names_text rows spns = codes "stamp,utc" ++ flat_map (λ spn. later_text (called rows spn)) spns ++ line_end
