-- The values of the groups.
use Rattle.std.specs.Prelude.{List}
use Rattle.j39_memory_in_place.specs.declared.by_group.ByGroup.{ByGroup}

-- each at its group's place among the groups that an identifier can have
abbrev pub values_of : {T : Type 0} → ByGroup T → List T
values_of all = all.values
