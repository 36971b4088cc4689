-- The faults of a controller, and when it tells them by DM1 (J1939-73, 5.7.1).
use Rattle.std.specs.Prelude.{◌-◌, ◌&&◌, ◌||◌, ℕ, Bool, true, false, List, [], ◌∷◌, Option, Some, None, filter, if◌then◌else◌, map, nat_le, nat_lt}
use Rattle.std.specs.List.{list_any}
use Rattle.j39_faults.specs.declared.code.Code.{Code}
use Rattle.j39_faults.specs.declared.lamps.Flash.TheVariants.{Steady}
use Rattle.j39_faults.specs.declared.lamps.Lamp.{Lamp}
use Rattle.j39_faults.specs.declared.lamps.Lamps.{Lamps}
use Rattle.j39_faults.specs.declared.lamps.LampState.TheVariants.{Off, On}
use Rattle.bus_demo.specs.declared.bus.diagnostics.Fault.{Fault}

-- it stands at a moment
abbrev pub stands : ℕ → Fault → Bool
stands micros fault = nat_le fault.begins micros && nat_lt micros fault.ends

abbrev pub stands_severe : ℕ → Fault → Bool
stands_severe micros fault = stands micros fault && fault.is_severe

-- it began or ended after one moment, and not after the other
abbrev pub has_changed : ℕ → ℕ → Fault → Bool
has_changed since micros fault =
    (nat_lt since fault.begins && nat_le fault.begins micros) || (nat_lt since fault.ends && nat_le fault.ends micros)

-- they are told at first, a second after they were told last, and where one began or ended since
abbrev pub are_due : List Fault → Option ℕ → ℕ → Bool
are_due [] None micros = false
are_due (fault ∷ faults) None micros = true
are_due faults (Some told) micros = nat_le 1000000 (micros - told) || list_any (has_changed told micros) faults

-- the codes of those that stand, in their order
abbrev pub codes_at : List Fault → ℕ → List Code
codes_at faults micros = map (λ fault. fault.code) (filter (stands micros) faults)

-- a lamp that doesn't flash
abbrev pub lamp : Bool → Lamp
lamp is_on = record { state = if is_on then On else Off; flash = Steady }

-- the amber lamp is on for each fault, and the red one for a severe one
abbrev pub lamps_at : List Fault → ℕ → Lamps
lamps_at faults micros = record {
  malfunction = lamp false;
  red = lamp (list_any (stands_severe micros) faults);
  amber = lamp (list_any (stands micros) faults);
  protect = lamp false;
}
