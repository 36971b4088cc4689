use Rattle.std.proofs.Common.{◌≡◌, length, map, take}
use Rattle.j39_rows.specs.Models.{column_of}
use Rattle.j39_grid.specs.Grid.{column_at}
use Rattle.j39_grid.specs.GridModels.{place_of}
use Rattle.j39_grid.proofs.places.columns.Given as goal

-- those before this one are as they are written
abbrev pub invariant-loop-at : goal.invariant-loop-at
invariant-loop-at l = (map column_of (take l.at l.columns) ≡ map column_at (map place_of (take l.at l.places))) × (length l.columns ≡ 32)
