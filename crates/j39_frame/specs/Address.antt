-- Addresses of a bus (J1939-21, 5.2.5 and 5.2.6; J1939-81, 4.2).
use Rattle.std.specs.Prelude.{◌<◌, ℕ}

-- what a controller can hold
abbrev pub IsAddress : ℕ → Type 0
IsAddress address = address < 254

-- the source of a controller that holds no address
abbrev pub null_address : ℕ
null_address = 254

-- the destination that stands for all controllers
abbrev pub global_address : ℕ
global_address = 255
