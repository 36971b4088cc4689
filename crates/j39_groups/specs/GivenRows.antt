-- The rows that a table is made of.
use Rattle.std.specs.Prelude.{ℕ, List, map}
use Rattle.j39_groups.specs.Models.{row_record}
use Rattle.j39_groups.specs.Row.{RowRecord}
use Rattle.j39_groups.specs.declared.rows.Rows.{Rows}
use Rattle.j39_memory.specs.Items.{items_of, places_of}

-- in their order
abbrev pub rows_in : Rows → List RowRecord
rows_in rows = map row_record (items_of rows.list)

-- for how many there are places
abbrev pub places_for : Rows → ℕ
places_for rows = places_of rows.list
