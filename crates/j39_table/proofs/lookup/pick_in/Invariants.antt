use Rattle.std.proofs.Common.{◌≡◌, ◌+◌, ◌++◌, ℕ, List, length}
use Rattle.j39_groups.specs.Readings.{readings_in}
use Rattle.j39_groups.specs.Row.{RowRecord}
use Rattle.j39_table.specs.Tables.{SpellRows, lines_of, row_lines}
use Rattle.j39_table.specs.Taking.{lines_left}
use Rattle.j39_table.proofs.lookup.pick_in.Given as goal

-- what the lines so far give is left out
abbrev pub invariant-loop-rest : goal.invariant-loop-rest
invariant-loop-rest l =
    (lines : List (List ℕ)) × (lines_of l.text ≡ lines ++ lines_left l.rest)
    × ((rows : List RowRecord) → SpellRows (row_lines lines) rows → l.initial.left ≡ length (readings_in rows l.pgn l.bytes) + l.left)

abbrev pub decreases-loop-rest : goal.decreases-loop-rest
decreases-loop-rest l = length (lines_left l.rest)
