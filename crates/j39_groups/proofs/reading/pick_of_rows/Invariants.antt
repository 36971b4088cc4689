use Rattle.std.proofs.Common.{◌≡◌, ◌+◌, length, take}
use Rattle.std.specs.List.{flat_map}
use Rattle.j39_groups.specs.Lines.{row_readings}
use Rattle.j39_groups.proofs.reading.pick_of_rows.Given as goal

-- what the rows so far give is left out
abbrev pub invariant-loop-row : goal.invariant-loop-row
invariant-loop-row l = l.initial.left ≡ length (flat_map (row_readings l.pgn l.bytes) (take l.row-index l.rows)) + l.left
