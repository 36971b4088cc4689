-- What a run makes of the frames of its bus: the grid of what a filter takes of their report.
use Rattle.std.specs.Prelude.{◌≡◌, List, filter, length}
use Rattle.std.specs.List.{flat_map}
use Rattle.j39_frame.specs.Frame.{FrameRecord}
use Rattle.j39_groups.specs.Row.{RowRecord}
use Rattle.j39_listen.specs.Filter.{FilterRecord, first_stamp, messages_taken}
use Rattle.j39_listen.specs.Headed.{Columned}
use Rattle.j39_listen.specs.Heard.{AreHeard, Hearing}
use Rattle.j39_listen.specs.Output.{Making, Output}
use Rattle.j39_listen.specs.Report.{Entry, entries_of}
use Rattle.j39_grid.specs.Grid.{Asked, grid_text, has_column, names_text, spans_of}

-- of what, and by which table
pub record Subject : Type 0 where
  pub asked : Asked
  pub which : FilterRecord
  pub rows : List RowRecord

-- the entries that have a column of what is asked for of these messages, which are heard in F
abbrev pub entries_heard : Subject → List FrameRecord → List Hearing → List Entry
entries_heard subject F heard =
    filter (has_column subject.asked.spns)
    (flat_map (entries_of subject.rows) (messages_taken subject.which (first_stamp F) heard))

-- their grid; each message counts that is heard, and of the lines the rows
abbrev pub grid_of : Subject → List FrameRecord → List Hearing → Output
grid_of subject F heard = record {
  text = grid_text subject.asked (entries_heard subject F heard);
  messages = length heard;
  lines = length (spans_of subject.asked (entries_heard subject F heard));
}

-- whatever the bus is called
abbrev pub MakesRows : Subject → Making
MakesRows subject bus F output =
    (heard : List Hearing) × AreHeard subject.rows F heard × (output ≡ grid_of subject F heard)

-- records below the names of their columns
abbrev pub MakesGrid : Subject → Making
MakesGrid subject = Columned (names_text subject.rows subject.asked.spns) subject.asked.form (MakesRows subject)
