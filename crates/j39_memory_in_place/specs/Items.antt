-- The items of a list.
use Rattle.std.specs.Prelude.{List as ListOf, ℕ, take}
use Rattle.j39_memory_in_place.specs.declared.list.List.{List}

-- in their order: those of the places in use
abbrev pub items_of : {T : Type 0} → List T → ListOf T
items_of list = take list.len list.places

-- how many places a new list has: all that there are
abbrev pub first_places : ℕ
first_places = 65536

-- how many it has places for
abbrev pub places_of : {T : Type 0} → List T → ℕ
places_of list = first_places
