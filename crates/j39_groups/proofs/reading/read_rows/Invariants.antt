use Rattle.std.proofs.Common.{◌≡◌, ◌≤◌, ◌==◌, map, take}
use Rattle.std.specs.Prelude.{filter}
use Rattle.std.specs.List.{flat_map}
use Rattle.arrayvec.specs.ArrayVec.{array_vec_len}
use Rattle.j39_groups.specs.Models.{row_record}
use Rattle.j39_groups.specs.Rows.{most_values_of}
use Rattle.j39_groups.specs.Readings.{readings_at}
use Rattle.j39_groups.specs.Models.{reading_of}
use Rattle.j39_groups.proofs.reading.read_rows.Given as goal

-- the rows so far are read, and took no more places than they have values
abbrev pub invariant-loop-row : goal.invariant-loop-row
invariant-loop-row l =
    (map reading_of l.found.items ≡ flat_map (λ row. readings_at l.bytes (row_record row)) (filter (λ row. row.pgn == l.pgn) (take l.row-index l.rows)))
    × (array_vec_len l.found ≤ most_values_of l.pgn (take l.row-index l.rows))
