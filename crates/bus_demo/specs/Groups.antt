-- The groups that are sent again and again: their numbers, and the priorities that they are sent with (J1939-71, 5.3).
use Rattle.std.specs.Prelude.{ℕ}
use Rattle.bus_demo.specs.declared.bus.gauges.Group.{Group}
use Rattle.bus_demo.specs.declared.bus.gauges.Group.TheVariants.{Distance, Engine, Temperatures}

abbrev pub number_of : Group → ℕ
number_of Engine = 61444
number_of Temperatures = 65262
number_of Distance = 65248

abbrev pub priority_of : Group → ℕ
priority_of Engine = 3
priority_of Temperatures = 6
priority_of Distance = 6
