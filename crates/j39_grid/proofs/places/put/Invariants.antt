use Rattle.std.proofs.Common.{◌≡◌, ◌++◌, drop, map, take}
use Rattle.j39_rows.specs.Models.{cell_of}
use Rattle.j39_grid.specs.GridModels.{place_of}
use Rattle.j39_grid.specs.GridSoFar.{placed_at}
use Rattle.j39_grid.proofs.places.put.Given as goal

-- the columns before this one were looked at, and those from here on are as they were
abbrev pub invariant-loop-place : goal.invariant-loop-place
invariant-loop-place l = map place_of l.places ≡ map (placed_at l.spn (cell_of l.cell)) (map place_of (take l.place-index l.initial.places))
    ++ map place_of (drop l.place-index l.initial.places)
