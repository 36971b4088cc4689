use Rattle.std.proofs.Common.{◌≡◌, ◌++◌, drop, map, take}
use Rattle.j39_grid.specs.GridModels.{place_of}
use Rattle.j39_grid.specs.GridSoFar.{emptied}
use Rattle.j39_grid.proofs.places.empty.Given as goal

-- the columns before this one were looked at, and those from here on are as they were
abbrev pub invariant-loop-place : goal.invariant-loop-place
invariant-loop-place l = map place_of l.places ≡ map emptied (map place_of (take l.place-index l.initial.places))
    ++ map place_of (drop l.place-index l.initial.places)
