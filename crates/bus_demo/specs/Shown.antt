-- What the gauges show: each value in its range, as the payload that says it, where a raw number does.
use Rattle.std.specs.Prelude.{◌≡◌, ◌≤◌, ◌<◌, ◌+◌, ◌*◌, ◌-ℤ◌, ◌^◌, ◌-◌, ℕ, List, Option, None, Some, min, pos}
use Rattle.j39_groups.specs.Slots.{IsRawOf}
use Rattle.bus_demo.specs.Payloads.{distance_bytes, engine_bytes, temperature_bytes}
use Rattle.bus_demo.specs.declared.bus.gauges.Group.{Group}
use Rattle.bus_demo.specs.declared.bus.gauges.Group.TheVariants.{Distance, Engine, Temperatures}

-- 600 to 2,400 rpm, in steps of 0.125 rpm
pub record ShowsEngine (shown : Option (List ℕ)) : Type 0 where
  pub step : ℕ
  pub fits : step ≤ 14400
  pub only : (raw : ℕ) → IsRawOf 190 (pos (600000 + 125 * step)) raw → shown ≡ Some (engine_bytes raw)
  pub none : ((raw : ℕ) → IsRawOf 190 (pos (600000 + 125 * step)) raw → ⊥) → shown ≡ None

-- coolant of -20 to 99 degrees, and oil of 80 to 111 degrees, in steps of 0.03125 degrees
pub record ShowsTemperatures (shown : Option (List ℕ)) : Type 0 where
  pub coolant : ℕ
  pub coolant_fits : coolant < 120
  pub oil : ℕ
  pub oil_fits : oil < 1000
  pub only : (raw_coolant raw_oil : ℕ) → IsRawOf 110 (pos coolant -ℤ pos 20) raw_coolant
      → IsRawOf 175 (pos (8000000 + 3125 * oil)) raw_oil → shown ≡ Some (temperature_bytes raw_coolant raw_oil)
  pub none : ((raw_coolant raw_oil : ℕ) → IsRawOf 110 (pos coolant -ℤ pos 20) raw_coolant
      → IsRawOf 175 (pos (8000000 + 3125 * oil)) raw_oil → ⊥) → shown ≡ None

-- this trip, in steps of 125 m, and 1,000 km before it
pub record ShowsDistance (steps : ℕ) (shown : Option (List ℕ)) : Type 0 where
  pub only : (raw_trip raw_total : ℕ) → IsRawOf 244 (pos (125 * steps)) raw_trip
      → IsRawOf 245 (pos (1000000 + 125 * steps)) raw_total → shown ≡ Some (distance_bytes raw_trip raw_total)
  pub none : ((raw_trip raw_total : ℕ) → IsRawOf 244 (pos (125 * steps)) raw_trip
      → IsRawOf 245 (pos (1000000 + 125 * steps)) raw_total → ⊥) → shown ≡ None

-- the trip goes on by up to 500 m at a time
abbrev pub GoesOn : ℕ → ℕ → Type 0
GoesOn old new = (more : ℕ) × (more < 5) × (new ≡ min (old + more) (2 ^ 32 - 1))

abbrev pub Shows : Group → ℕ → ℕ → Option (List ℕ) → Type 0
Shows Engine old new shown = ShowsEngine shown × (new ≡ old)
Shows Temperatures old new shown = ShowsTemperatures shown × (new ≡ old)
Shows Distance old new shown = ShowsDistance new shown × GoesOn old new
