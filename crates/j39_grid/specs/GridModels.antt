-- What contracts see of the code's types.
use Rattle.std.specs.Prelude.{ℕ, List, Option, map, option_map}
use Rattle.j39_frame.specs.Stamp.{stamp_micros}
use Rattle.j39_rows.specs.Models.{cell_of}
use Rattle.j39_rows.specs.Row.{CellRecord}
use Rattle.j39_grid.specs.Grid.{Asked}
use Rattle.j39_listen.specs.Chooses.{which_of}
use Rattle.j39_grid.specs.GridRun.{Subject}
use Rattle.j39_grid.specs.declared.asked.GridAsked.{GridAsked}
use Rattle.j39_grid.specs.declared.asked.GridWanted.{GridWanted}
use Rattle.j39_grid.specs.declared.place.Place.{Place}
use Rattle.j39_grid.specs.declared.rows.Rows.{Rows}

abbrev pub asked_of : GridAsked → Asked
asked_of asked = record { form = asked.form; every = asked.every; spns = asked.spns.now }

abbrev pub subject_of : GridWanted → Subject
subject_of gridded = record {
  asked = asked_of gridded.asked;
  which = which_of gridded.wanted.filter;
  rows = gridded.wanted.groups.now;
}

-- a parameter, and what stands in its column
abbrev pub place_of : Place → ℕ × CellRecord
place_of place = (place.spn, cell_of place.cell)

-- the row of a span that hasn't ended: when that began, where there is one; and how many rows were written
pub record RowsRecord : Type 0 where
  pub moment : Option ℕ
  pub places : List (ℕ × CellRecord)
  pub lines : ℕ

abbrev pub rows_of : Rows → RowsRecord
rows_of rows = record {
  moment = option_map stamp_micros rows.moment;
  places = map place_of rows.places.items;
  lines = rows.lines;
}
