-- What is printed is read back.
use Rattle.std.specs.Prelude.{◌≡◌, ◌++◌, ◌∷◌, List, ℕ, []}
use Rattle.std.specs.List.{AllByRecursion, flat_map}
use Rattle.j39_io.specs.Chars.{newline}
use Rattle.j39_groups.specs.Printed.{row_text}
use Rattle.j39_groups.specs.Row.{RowRecord}
use Rattle.j39_table.specs.Rows.{IsGoodRow}
use Rattle.j39_table.specs.Spelled.{SpellsRow}
use Rattle.j39_table.specs.Tables.{SpellRows, lines_of, row_lines}

-- the line that is printed for a good row spells it
abbrev pub PrintedLinesSpell : Type 0
PrintedLinesSpell = (row : RowRecord) (line : List ℕ) → IsGoodRow row → row_text row ≡ line ++ (newline ∷ [])
    → SpellsRow line row

-- what is printed for a table of good rows spells its rows, in their order
abbrev pub PrintedTablesSpell : Type 0
PrintedTablesSpell = (rows : List RowRecord) → AllByRecursion IsGoodRow rows
    → SpellRows (row_lines (lines_of (flat_map row_text rows))) rows
