-- The payloads that say what is measured (J1939-71, 5.1): raw numbers, each with its low byte first. 255 is a byte of a
-- parameter that is not available.
use Rattle.std.specs.Prelude.{ℕ, List, [], ◌∷◌, ◌/◌, ◌%◌, ◌^◌}

-- EEC1 with this raw engine speed, in bytes 4 and 5
abbrev pub engine_bytes : ℕ → List ℕ
engine_bytes speed = 255 ∷ 255 ∷ 255 ∷ speed % 256 ∷ speed / 256 % 256 ∷ 255 ∷ 255 ∷ 255 ∷ []

-- ET1 with these raw temperatures, of the coolant in byte 1 and of the oil in bytes 3 and 4
abbrev pub temperature_bytes : ℕ → ℕ → List ℕ
temperature_bytes coolant oil = coolant % 256 ∷ 255 ∷ oil % 256 ∷ oil / 256 % 256 ∷ 255 ∷ 255 ∷ 255 ∷ 255 ∷ []

-- VD with these raw distances, of the trip in bytes 1 to 4 and of all in bytes 5 to 8
abbrev pub distance_bytes : ℕ → ℕ → List ℕ
distance_bytes trip total =
    trip % 256 ∷ trip / 256 % 256 ∷ trip / 2 ^ 16 % 256 ∷ trip / 2 ^ 24 % 256
    ∷ total % 256 ∷ total / 256 % 256 ∷ total / 2 ^ 16 % 256 ∷ total / 2 ^ 24 % 256 ∷ []
