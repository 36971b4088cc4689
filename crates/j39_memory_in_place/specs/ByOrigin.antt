-- The values of origins.
use Rattle.std.specs.Prelude.{List, ℕ, ◌-◌, take}
use Rattle.j39_memory_in_place.specs.Paired.{paired}
use Rattle.j39_frame.specs.declared.origin.Origin.{Origin}
use Rattle.j39_memory_in_place.specs.declared.by_origin.ByOrigin.{ByOrigin}

-- each with its origin, in the order in which the origins came
abbrev pub pairs_of : {T : Type 0} → ByOrigin T → List (Origin × T)
pairs_of all = paired (take all.count all.origins) all.values

-- how many more it has room for
abbrev pub room_in : {T : Type 0} → ByOrigin T → ℕ
room_in all = 4096 - all.count
