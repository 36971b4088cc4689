-- The lamps in bytes 1 and 2 of a message of faults (J1939-73, 5.7.1).
use Rattle.std.specs.Prelude.{◌==◌, ◌/◌, ◌%◌, ℕ, List, ◌∷◌, Option, Some, None, if◌then◌else◌}
use Rattle.j39_faults.specs.declared.lamps.Flash.{Flash}
use Rattle.j39_faults.specs.declared.lamps.Flash.TheVariants as flash
use Rattle.j39_faults.specs.declared.lamps.Lamp.{Lamp}
use Rattle.j39_faults.specs.declared.lamps.LampState.{LampState}
use Rattle.j39_faults.specs.declared.lamps.LampState.TheVariants as state
use Rattle.j39_faults.specs.declared.lamps.Lamps.{Lamps}

-- two bits: 00 off, 01 on, 10 reserved, 11 not available
abbrev pub state_of : ℕ → LampState
state_of bits =
    if bits == 0 then state.Off else (if bits == 1 then state.On else
    (if bits == 2 then state.Reserved else state.NotAvailable))

-- two bits: 00 slowly, 01 fast, 10 reserved, 11 not at all
abbrev pub flash_of : ℕ → Flash
flash_of bits =
    if bits == 0 then flash.Slow else (if bits == 1 then flash.Fast else
    (if bits == 2 then flash.Reserved else flash.Steady))

abbrev pub lamp_of : ℕ → ℕ → Lamp
lamp_of states flashes = record { state = state_of states; flash = flash_of flashes }

-- two bits for each lamp, from the top of both bytes
abbrev pub lamps_of : List ℕ → Option Lamps
lamps_of (states ∷ flashes ∷ rest) = Some (record {
  malfunction = lamp_of (states / 64 % 4) (flashes / 64 % 4);
  red = lamp_of (states / 16 % 4) (flashes / 16 % 4);
  amber = lamp_of (states / 4 % 4) (flashes / 4 % 4);
  protect = lamp_of (states % 4) (flashes % 4);
})
lamps_of _ = None
