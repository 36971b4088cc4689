-- What the last message of active codes of each controller names, since when, and how often one behind the other (own).
use Rattle.std.specs.Prelude.{◌+◌, ◌++◌, ◌∷◌, [], ℕ, zero, suc, Bool, true, false, List, Option, Some, None, if◌then◌else◌, filter, is_some, length, map}
use Rattle.j39_faults.specs.Changes.{named_in}
use Rattle.j39_faults.specs.Conversions.{codes_by, version_for}
use Rattle.j39_faults.specs.LampBits.{lamps_of}
use Rattle.j39_faults.specs.declared.code.Code.{Code}
use Rattle.j39_faults.specs.declared.conversion.Conversion.{Conversion}
use Rattle.j39_faults.specs.declared.lamps.Lamps.{Lamps}
use Rattle.j39_listen.specs.Counting.{capped}
use Rattle.j39_listen.specs.Filter.{FilterRecord, asks_for}
use Rattle.j39_listen.specs.Heard.{Hearing}
use Rattle.j39_fault_reports.specs.Faults.{Fault, asks_fault, codes_or_none, lights_since, said_from}
use Rattle.j39_fault_reports.specs.Spoken.{spoken_in}

-- ---- since when it names a code, or that there is none

abbrev pub codes_in : List Conversion → Hearing → List Code
codes_in conversions m = codes_by (version_for conversions m.name) m.message.bytes

-- by SPN and FMI, whatever the count
abbrev pub names : List Code → Option Code → Bool
names [] None = true
names (one ∷ more) None = false
names cs (Some code) = is_some (named_in cs code)

-- the last of these that name the code, one behind the other; the last is the first of them
unfoldable pub naming : List Conversion → Option Code → List Hearing → List Hearing
naming conversions code [] = []
naming conversions code (m ∷ ms) = if names (codes_in conversions m) code then m ∷ naming conversions code ms else []

-- ---- what is told

-- since when, and how often (a count that would pass 2^64 - 1 stays there), up to which message; who sent that, to whom, of which
-- group
pub record Now : Type 0 where
  pub since : ℕ
  pub last : ℕ
  pub often : ℕ
  pub address : ℕ
  pub destination : Option ℕ
  pub name : Option ℕ
  pub pgn : ℕ
  pub lamps : Lamps
  pub code : Option Code

-- the earliest of these stamps
abbrev pub earliest : ℕ → List Hearing → ℕ
earliest stamp [] = stamp
earliest stamp (m ∷ ms) = earliest m.stamp ms

-- a code of the last message of a controller, or that it has none, behind those before
abbrev pub now_of : List Conversion → ℕ → Hearing → List Hearing → Lamps → Option Code → Now
now_of conversions address m before lamps code = record {
  since = earliest m.stamp (naming conversions code before);
  last = m.stamp;
  often = capped (length (naming conversions code before) + 1);
  address = address;
  destination = m.destination;
  name = m.name;
  pgn = m.message.pgn;
  lamps = lamps;
  code = code;
}

abbrev pub now_by : List Conversion → ℕ → Hearing → List Hearing → Option Lamps → List Now
now_by conversions address m before None = []
now_by conversions address m before (Some lamps) =
    map (now_of conversions address m before lamps) (codes_or_none (codes_in conversions m))

-- all of its codes, in order
abbrev pub now_in : List Conversion → ℕ → List Hearing → List Now
now_in conversions address [] = []
now_in conversions address (m ∷ before) = now_by conversions address m before (lamps_of m.message.bytes)

abbrev pub now_at : List Conversion → List Hearing → ℕ → List Now
now_at conversions ms address = now_in conversions address (spoken_in ms address)

-- ---- before the codes of a controller its lamps are told, if they aren't all off

pub data Told : Type 0 where
  lit : Fault → Told
  named : Now → Told

abbrev pub lights_by : ℕ → Hearing → Option Lamps → List Fault
lights_by address m None = []
lights_by address m (Some lamps) = lights_since [] lamps (said_from address m)

-- those of its last message
abbrev pub lights_in : ℕ → List Hearing → List Fault
lights_in address [] = []
lights_in address (m ∷ before) = lights_by address m (lamps_of m.message.bytes)

abbrev pub told_at : List Conversion → List Hearing → ℕ → List Told
told_at conversions ms address =
    map (λ f. lit f) (lights_in address (spoken_in ms address)) ++ map (λ n. named n) (now_at conversions ms address)

-- at the addresses below n, in order
unfoldable pub told_below : List Conversion → List Hearing → ℕ → List Told
told_below conversions ms zero = []
told_below conversions ms (suc n) = told_below conversions ms n ++ told_at conversions ms n

-- at all
abbrev pub told_now : List Conversion → List Hearing → List Told
told_now conversions ms = told_below conversions ms 256

-- ---- what is asked for

-- the message by which it was told last is asked for
abbrev pub asks_now : FilterRecord → ℕ → Told → Bool
asks_now which first (lit f) = asks_fault which first f
asks_now which first (named n) = asks_for which first n.last n.address n.name n.destination n.pgn

-- those that are asked for, in order
abbrev pub now_taken : FilterRecord → ℕ → List Told → List Told
now_taken which first ts = filter (asks_now which first) ts
