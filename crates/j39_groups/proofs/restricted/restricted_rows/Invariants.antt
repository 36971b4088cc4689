use Rattle.std.proofs.Common.{◌≡◌, ◌≤◌, length, map, take}
use Rattle.j39_groups.specs.GivenRows.{rows_in}
use Rattle.j39_groups.specs.Models.{row_record}
use Rattle.j39_groups.specs.Readings.{rows_of_spns}
use Rattle.j39_groups.proofs.restricted.restricted_rows.Given as goal

-- those of the rows so far are kept
abbrev pub invariant-loop-row : goal.invariant-loop-row
invariant-loop-row l =
    (rows_in l.kept ≡ rows_of_spns l.spns (map row_record (take l.row-index l.rows))) × (length (rows_in l.kept) ≤ l.row-index)
