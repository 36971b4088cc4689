-- The payload of a message of faults, as DM1 and DM2, whose SPNs are written by conversion method 0 (J1939-73, 5.7.1).
use Rattle.std.specs.Prelude.{◌==◌, ◌+◌, ◌-◌, ◌*◌, ◌/◌, ◌%◌, ◌&&◌, ◌++◌, ◌∷◌, ℕ, List, [], Bool, true, false, Option, Some, None, length, nat_le, nat_lt, not, replicate}
use Rattle.std.specs.List.{flat_map, list_all}
use Rattle.j39_faults.specs.declared.code.Code.{Code}
use Rattle.j39_faults.specs.declared.code.Parameter.{Parameter}
use Rattle.j39_faults.specs.declared.code.Parameter.TheVariants.{Known, OneOf}
use Rattle.j39_faults.specs.declared.lamps.Flash.{Flash}
use Rattle.j39_faults.specs.declared.lamps.Flash.TheVariants as flash
use Rattle.j39_faults.specs.declared.lamps.LampState.{LampState}
use Rattle.j39_faults.specs.declared.lamps.LampState.TheVariants as state
use Rattle.j39_faults.specs.declared.lamps.Lamps.{Lamps}

-- ---- the lamps, bytes 1 and 2

abbrev pub state_bits : LampState → ℕ
state_bits state.Off = 0
state_bits state.On = 1
state_bits state.Reserved = 2
state_bits state.NotAvailable = 3

abbrev pub flash_bits : Flash → ℕ
flash_bits flash.Slow = 0
flash_bits flash.Fast = 1
flash_bits flash.Reserved = 2
flash_bits flash.Steady = 3

-- two bits for each lamp, from the top
abbrev pub pairs : ℕ → ℕ → ℕ → ℕ → ℕ
pairs malfunction red amber protect = 64 * malfunction + 16 * red + 4 * amber + protect

abbrev pub states_byte : Lamps → ℕ
states_byte lamps =
    pairs (state_bits lamps.malfunction.state) (state_bits lamps.red.state) (state_bits lamps.amber.state)
    (state_bits lamps.protect.state)

abbrev pub flashes_byte : Lamps → ℕ
flashes_byte lamps =
    pairs (flash_bits lamps.malfunction.flash) (flash_bits lamps.red.flash) (flash_bits lamps.amber.flash)
    (flash_bits lamps.protect.flash)

-- ---- the codes, four bytes each

-- 19 bits, and none that only its maker can tell
abbrev pub is_spn : Parameter → Bool
is_spn (Known spn) = nat_lt spn 524288
is_spn (OneOf spns) = false

abbrev pub is_count : Option ℕ → Bool
is_count None = true
is_count (Some count) = nat_lt count 127

abbrev pub spn_in : Parameter → ℕ
spn_in (Known spn) = spn
spn_in (OneOf spns) = 0

-- a code that a message can tell: SPN 0 with FMI 0 says that there is none
abbrev pub can_tell : Code → Bool
can_tell code =
    is_spn code.parameter && nat_lt code.fmi 32 && is_count code.count
    && not (spn_in code.parameter == 0 && code.fmi == 0)

abbrev pub count_bits : Option ℕ → ℕ
count_bits None = 127
count_bits (Some count) = count

-- the low 16 bits of the SPN, the low byte first; its upper 3 above the FMI; method 0 above the count
abbrev pub code_bytes : Code → List ℕ
code_bytes code =
    spn_in code.parameter % 256 ∷ spn_in code.parameter / 256 % 256 ∷ (spn_in code.parameter / 65536 * 32 + code.fmi)
    ∷ count_bits code.count ∷ []

-- where there is no code, SPN 0 with FMI 0 stands
abbrev pub codes_or_none : List Code → List ℕ
codes_or_none [] = 0 ∷ 0 ∷ 0 ∷ 0 ∷ []
codes_or_none (code ∷ more) = flat_map code_bytes (code ∷ more)

-- ---- the message

-- at most as many codes as packets can carry, each of which a message can tell
abbrev pub can_be_message : List Code → Bool
can_be_message codes = nat_le (length codes) 445 && list_all can_tell codes

-- a frame has eight bytes, FF behind the last code
abbrev pub filled : List ℕ → List ℕ
filled bytes = bytes ++ replicate (8 - length bytes) 0xFF

unfoldable pub faults_message : Lamps → List Code → List ℕ
faults_message lamps codes = filled (states_byte lamps ∷ flashes_byte lamps ∷ codes_or_none codes)
