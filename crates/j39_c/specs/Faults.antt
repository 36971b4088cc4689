-- Trouble codes and lamps as C has them (J1939-73, 5.7.1).
use Rattle.std.specs.Prelude.{◌==◌, ◌≤◌, ◌&&◌, ℕ, Bool, IsTrue, List, Option, Some, None, if◌then◌else◌, length, map, nat_lt, option_and_then, slice_get, take}
use Rattle.j39_faults.specs.Codes.{codes_of}
use Rattle.j39_faults.specs.FaultGroups.{kind_of}
use Rattle.j39_faults.specs.FaultsMessage.{can_be_message, count_bits, flash_bits, state_bits}
use Rattle.j39_faults.specs.LampBits.{lamp_of, lamps_of}
use Rattle.j39_faults.specs.declared.code.Candidates.{Candidates}
use Rattle.j39_faults.specs.declared.code.Code.{Code}
use Rattle.j39_faults.specs.declared.code.Parameter.{Parameter}
use Rattle.j39_faults.specs.declared.code.Parameter.TheVariants.{Known, OneOf}
use Rattle.j39_faults.specs.declared.lamps.Lamp.{Lamp}
use Rattle.j39_faults.specs.declared.lamps.Lamps.{Lamps}
use Rattle.j39_c.specs.declared.faults.PlainFault.{PlainFault}
use Rattle.j39_c.specs.declared.faults.PlainLamp.{PlainLamp}
use Rattle.j39_c.specs.declared.faults.PlainLamps.{PlainLamps}
use Rattle.j39_c.specs.declared.message.WholeMessage.{WholeMessage}

-- code number index, from 0 on, of a group that tells codes
abbrev pub code_by : ℕ → List ℕ → ℕ → Option Code
code_by pgn payload index = option_and_then (λ kind. slice_get (codes_of payload) index) (kind_of pgn)

abbrev pub code_in : WholeMessage → ℕ → Option Code
code_in m index = code_by m.pgn (take m.len m.data) index

-- the lamps of a group that tells codes
abbrev pub lamps_by : ℕ → List ℕ → Option Lamps
lamps_by pgn payload = option_and_then (λ kind. lamps_of payload) (kind_of pgn)

abbrev pub lamps_in : WholeMessage → Option Lamps
lamps_in m = lamps_by m.pgn (take m.len m.data)

-- the conversion method of a parameter, and its SPN by each version
abbrev pub method_of : Parameter → ℕ
method_of (Known spn) = 0
method_of (OneOf candidates) = 1

abbrev pub versions_of : Parameter → Candidates
versions_of (Known spn) = record { version_1 = spn; version_2 = spn; version_3 = spn }
versions_of (OneOf candidates) = candidates

abbrev pub plain_fault : Code → PlainFault
plain_fault code = record {
  spn = (versions_of code.parameter).version_3;
  version_1 = (versions_of code.parameter).version_1;
  version_2 = (versions_of code.parameter).version_2;
  fmi = code.fmi;
  count = count_bits code.count;
  conversion = method_of code.parameter;
}

abbrev pub plain_lamp : Lamp → PlainLamp
plain_lamp lamp = record { state = state_bits lamp.state; flash = flash_bits lamp.flash }

abbrev pub plain_lamps : Lamps → PlainLamps
plain_lamps lamps = record {
  malfunction = plain_lamp lamps.malfunction;
  red = plain_lamp lamps.red;
  amber = plain_lamp lamps.amber;
  protect = plain_lamp lamps.protect;
}

-- ---- what C tells

-- the code that a plain one says
abbrev pub code_from : PlainFault → Code
code_from f = record {
  parameter = if f.conversion == 0 then Known f.spn else
      (OneOf (record { version_1 = f.version_1; version_2 = f.version_2; version_3 = f.spn }));
  fmi = f.fmi;
  count = if f.count == 127 then None else (Some f.count);
}

abbrev pub lamps_from : PlainLamps → Lamps
lamps_from p = record {
  malfunction = lamp_of p.malfunction.state p.malfunction.flash;
  red = lamp_of p.red.state p.red.flash;
  amber = lamp_of p.amber.state p.amber.flash;
  protect = lamp_of p.protect.state p.protect.flash;
}

-- two bits each
abbrev pub is_lamp : PlainLamp → Bool
is_lamp p = nat_lt p.state 4 && nat_lt p.flash 4

abbrev pub are_lamps : PlainLamps → Bool
are_lamps p = is_lamp p.malfunction && is_lamp p.red && is_lamp p.amber && is_lamp p.protect

-- a message that is written out tells these: 64 codes at most (own)
pub record CanTell (lamps : PlainLamps) (faults : List PlainFault) : Type 0 where
  pub few : length faults ≤ 64
  pub in_range : IsTrue (are_lamps lamps)
  pub tellable : IsTrue (can_be_message (map code_from faults))
