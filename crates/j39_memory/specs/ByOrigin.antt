-- The values of origins.
use Rattle.std.specs.Prelude.{List, ℕ}
use Rattle.j39_frame.specs.declared.origin.Origin.{Origin}
use Rattle.j39_memory.specs.declared.by_origin.ByOrigin.{ByOrigin}

-- each with its origin, in the order in which the origins came
abbrev pub pairs_of : {T : Type 0} → ByOrigin T → List (Origin × T)
pairs_of all = all.values.items

-- how many more it has room for, with no more memory: the tree of their places may take some at each
abbrev pub room_in : {T : Type 0} → ByOrigin T → ℕ
room_in all = 0
