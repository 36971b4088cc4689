use Rattle.std.proofs.Common.{◌≡◌, length, map, take}
use Rattle.j39_rows.specs.Row.{nothing}
use Rattle.j39_grid.specs.GridModels.{place_of}
use Rattle.j39_grid.proofs.rows.places_of.Given as goal

-- each parameter so far has a column
abbrev pub invariant-loop-spn : goal.invariant-loop-spn
invariant-loop-spn l = (map place_of l.places.items ≡ map (λ spn. (spn, nothing)) (take l.spn-index l.spns)) × (length l.places.items ≡ l.spn-index)
