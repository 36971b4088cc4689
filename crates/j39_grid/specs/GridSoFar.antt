-- The steps of a grid, value by value and frame by frame.
use Rattle.std.specs.Prelude.{◌≡◌, ◌==◌, ◌+◌, ◌++◌, ◌∷◌, [], ℕ, Bool, false, List, Option, None, Some, Result, Ok, Err, drop, filter, if◌then◌else◌, length, map, reverse}
use Rattle.std.specs.List.{flat_map}
use Rattle.std.specs.Io.KnownBytes.{Appends}
use Rattle.j39_frame.specs.Frame.{FrameRecord}
use Rattle.j39_frame.specs.Stamp.{stamp_micros}
use Rattle.j39_groups.specs.Value.{ReadingRecord}
use Rattle.j39_io.specs.Device.{AppendsFront}
use Rattle.j39_io.specs.Puts.{Puts}
use Rattle.j39_io.specs.Turn.{Device}
use Rattle.j39_listen.specs.Chooses.{Chooses}
use Rattle.j39_listen.specs.Counting.{capped}
use Rattle.j39_listen.specs.Heard.{AreHeard, HeardAt, Hearing, or_none}
use Rattle.j39_listen.specs.Listening.{Hears}
use Rattle.j39_listen.specs.Output.{Output}
use Rattle.j39_listen.specs.Report.{Entry, entry_of}
use Rattle.j39_listen.specs.declared.format.Format.{Format}
use Rattle.j39_listen.specs.declared.listener.Listener.{Listener}
use Rattle.j39_rows.specs.Row.{CellRecord, nothing, row_text}
use Rattle.j39_grid.specs.Grid.{Asked, Span, cell_in, column_at, has_column, moment_head, moment_of, span_text, spans_of, value_cell}
use Rattle.j39_grid.specs.GridModels.{RowsRecord, asked_of, rows_of}
use Rattle.j39_grid.specs.GridRun.{Subject, entries_heard}
use Rattle.j39_grid.specs.declared.account.GridAccount.{GridAccount}
use Rattle.j39_grid.specs.declared.rows.Rows.{Rows}

-- ---- the row of a span, as the code has it

-- it began at this moment
abbrev pub is_at : Option ℕ → ℕ → Bool
is_at None moment = false
is_at (Some began) moment = began == moment

-- its text; nothing where there is none
abbrev pub row_of : Format → Option ℕ → List (ℕ × CellRecord) → List ℕ
row_of form None places = []
row_of form (Some moment) places = row_text form (moment_head moment) (map column_at places)

abbrev pub pending_text : Format → RowsRecord → List ℕ
pending_text form rows = row_of form rows.moment rows.places

-- so many rows were written, with that of the span that ends, where there is one
abbrev pub lines_with : Option ℕ → ℕ → ℕ
lines_with None lines = lines
lines_with (Some moment) lines = capped (lines + 1)

abbrev pub emptied : ℕ × CellRecord → ℕ × CellRecord
emptied (spn, cell) = (spn, nothing)

-- another span begins at this moment
abbrev pub begun_at : ℕ → RowsRecord → RowsRecord
begun_at moment rows = record {
  moment = Some moment;
  places = map emptied rows.places;
  lines = lines_with rows.moment rows.lines;
}

-- where it isn't the same
abbrev pub entered : ℕ → RowsRecord → RowsRecord
entered moment rows = if is_at rows.moment moment then rows else begun_at moment rows

-- and the row before it is written then
abbrev pub left_text : Format → ℕ → RowsRecord → List ℕ
left_text form moment rows = if is_at rows.moment moment then [] else pending_text form rows

-- a value stands in each column of its parameter
abbrev pub placed_at : ℕ → CellRecord → ℕ × CellRecord → ℕ × CellRecord
placed_at spn cell (column, before) = (column, if spn == column then cell else before)

abbrev pub placed : ℕ → CellRecord → RowsRecord → RowsRecord
placed spn cell rows = record rows { places = map (placed_at spn cell) rows.places }

-- ---- the same, by the spans of what came

abbrev pub moment_in : List Span → Option ℕ
moment_in [] = None
moment_in (s ∷ before) = Some s.moment

abbrev pub last_entries : List Span → List Entry
last_entries [] = []
last_entries (s ∷ before) = s.entries

abbrev pub shown : Asked → List Span → RowsRecord
shown asked spans = record {
  moment = moment_in spans;
  places = map (λ spn. (spn, cell_in (last_entries spans) spn)) asked.spns;
  lines = capped (length (drop 1 spans));
}

-- the text of the spans that have ended
abbrev pub ended_text : Asked → List Entry → List ℕ
ended_text asked entries = flat_map (span_text asked) (reverse (drop 1 (spans_of asked entries)))

-- ---- values, one behind the other

-- the rows behind a value, and behind some
abbrev pub taken_at : Asked → RowsRecord → Entry → RowsRecord
taken_at asked rows e = placed e.spn (value_cell e.value) (entered (moment_of asked.every e.stamp) rows)

unfoldable pub rows_behind : Asked → RowsRecord → List Entry → RowsRecord
rows_behind asked rows [] = rows
rows_behind asked rows (e ∷ es) = rows_behind asked (taken_at asked rows e) es

-- what is written as they come
unfoldable pub text_behind : Asked → RowsRecord → List Entry → List ℕ
text_behind asked rows [] = []
text_behind asked rows (e ∷ es) =
    left_text asked.form (moment_of asked.every e.stamp) rows ++ text_behind asked (taken_at asked rows e) es

-- ---- a message

-- the message, and the rows and the writer before it
pub record Begun : Type 0 where
  pub asked : Asked
  pub hearing : Hearing
  pub rows : RowsRecord
  pub writer : Device

-- the values of its readings that have a column
abbrev pub kept_of : Asked → Hearing → List ReadingRecord → List Entry
kept_of asked h readings = filter (has_column asked.spns) (map (entry_of h) readings)

-- what these ended was written, or a front of it and then came a fault
abbrev pub PutsReadings : Begun → Device → List ReadingRecord → Result Unit Unit → Type 0
PutsReadings begun writer readings result =
    Puts (text_behind begun.asked begun.rows (kept_of begun.asked begun.hearing readings)) result
    (record { old = begun.writer; new = writer })

-- these were taken, and no fault came
pub record HasTaken (begun : Begun) (rows : Rows) (writer : Device) (readings : List ReadingRecord) : Type 0 where
  pub asked_is : asked_of rows.asked ≡ begun.asked
  pub stamp_is : stamp_micros rows.stamp ≡ begun.hearing.stamp
  pub rows_are : rows_of rows ≡ rows_behind begun.asked begun.rows (kept_of begun.asked begun.hearing readings)
  pub written : PutsReadings begun writer readings (Ok tt)

-- a fault came at the last of these
abbrev pub HasStopped : Begun → List ReadingRecord → Device → Type 0
HasStopped begun readings writer = PutsReadings begun writer readings (Err tt)

-- ---- a frame

-- the values of what is heard at the frame f went to the rows
pub record NotesFrame (subject : Subject) (F : List FrameRecord) (f : FrameRecord) (l' : Listener) (before after : RowsRecord)
    (messages : ℕ) (old new : Option (List ℕ)) : Type 0 where
  pub heard : Option Hearing
  pub heard_at : HeardAt subject.rows (F ++ f ∷ []) (length F) heard
  pub hears : Hears l' (F ++ f ∷ [])
  pub messages_are : messages ≡ length (or_none heard)
  pub rows_are : after ≡ rows_behind subject.asked before (entries_heard subject (F ++ f ∷ []) (or_none heard))
  pub written : Appends old new (text_behind subject.asked before (entries_heard subject (F ++ f ∷ []) (or_none heard)))

-- a fault of the writer among them
pub record StopsFrame (subject : Subject) (F : List FrameRecord) (f : FrameRecord) (before : RowsRecord) (old new : Option (List ℕ))
    : Type 0 where
  pub heard : Option Hearing
  pub heard_at : HeardAt subject.rows (F ++ f ∷ []) (length F) heard
  pub front : AppendsFront old new (text_behind subject.asked before (entries_heard subject (F ++ f ∷ []) (or_none heard)))

-- the grid of what was heard in F, but for the row of its last span
pub record HasGridded (subject : Subject) (grid : GridAccount) (F : List FrameRecord) (output : Output) : Type 0 where
  pub by : grid.groups.now ≡ subject.rows
  pub asked_is : asked_of grid.rows.asked ≡ subject.asked
  pub chooses : Chooses subject.which grid.chooser F
  pub heard : List Hearing
  pub are_heard : AreHeard subject.rows F heard
  pub hears : Hears grid.listener F
  pub rows_are : rows_of grid.rows ≡ shown subject.asked (spans_of subject.asked (entries_heard subject F heard))
  pub text_is : output.text ≡ ended_text subject.asked (entries_heard subject F heard)
  pub messages_are : grid.messages ≡ capped (length heard)
