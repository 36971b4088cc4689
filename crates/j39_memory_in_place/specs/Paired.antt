-- Origins beside the places of their values.
use Rattle.std.specs.Prelude.{List, [], ◌∷◌, Option, Some, None}
use Rattle.j39_frame.specs.declared.origin.Origin.{Origin}

-- each origin with its value, as far as there are values
abbrev pub paired : {T : Type 0} → List Origin → List (Option T) → List (Origin × T)
paired [] places = []
paired (origin ∷ origins) [] = []
paired (origin ∷ origins) (None ∷ places) = []
paired (origin ∷ origins) (Some value ∷ places) = (origin, value) ∷ paired origins places
