-- What is told of a message of faults (own).
use Rattle.std.specs.Prelude.{◌==◌, ◌&&◌, ◌++◌, ◌||◌, ℕ, Bool, true, false, List, [], ◌∷◌, Option, Some, None, bytes_eq, count_by, filter, if◌then◌else◌, map}
use Rattle.std.specs.List.{list_any}
use Rattle.j39_faults.specs.Conversions.{codes_by, version_for}
use Rattle.j39_faults.specs.FaultGroups.{cleared_in, kind_of}
use Rattle.j39_faults.specs.LampBits.{lamps_of}
use Rattle.j39_faults.specs.Text.{lamps_told}
use Rattle.j39_faults.specs.declared.text.State.{State}
use Rattle.j39_faults.specs.declared.text.State.TheVariants.{Is}
use Rattle.j39_faults.specs.declared.code.Code.{Code}
use Rattle.j39_faults.specs.declared.code.Parameter.{Parameter}
use Rattle.j39_faults.specs.declared.code.Parameter.TheVariants.{Known, OneOf}
use Rattle.j39_faults.specs.declared.conversion.Conversion.{Conversion}
use Rattle.j39_faults.specs.declared.conversion.Version.{Version}
use Rattle.j39_faults.specs.declared.kind.Kind.{Kind}
use Rattle.j39_faults.specs.declared.kind.Kind.TheVariants.{Active}
use Rattle.j39_faults.specs.declared.lamps.Lamps.{Lamps}
use Rattle.j39_listen.specs.Filter.{FilterRecord, asks_for}
use Rattle.j39_listen.specs.Heard.{Hearing}
use Rattle.j39_listen.specs.declared.format.Format.{Format}
use Rattle.j39_listen.specs.declared.format.Format.TheVariants.{Line, Object, Record}
use Rattle.j39_names.specs.Naming.{NamingRecord, parameter_by}

-- the lamps of who sent it; a code of a kind, what became of it, or that a message has none, and with which lamps; or that the codes
-- of a kind are to be cleared
pub data Saying : Type 0 where
  lights : Lamps → Saying
  says : State → Lamps → Option Code → Saying
  clears : Kind → Saying

-- of an active code; of none, the lamps
abbrev pub active_or_lights : Lamps → Option Code → Saying
active_or_lights lamps None = lights lamps
active_or_lights lamps (Some code) = says (Is Active) lamps (Some code)

-- when it was said, at which address, to whom, under which NAME, and by a message of which group
pub record Fault : Type 0 where
  pub stamp : ℕ
  pub address : ℕ
  pub destination : Option ℕ
  pub name : Option ℕ
  pub pgn : ℕ
  pub saying : Saying

abbrev pub said_from : ℕ → Hearing → Saying → Fault
said_from address m saying = record {
  stamp = m.stamp;
  address = address;
  destination = m.destination;
  name = m.name;
  pgn = m.message.pgn;
  saying = saying;
}

abbrev pub said_at : Hearing → Saying → Fault
said_at m saying = said_from m.message.source m saying

-- the message that said it is asked for
abbrev pub asks_fault : FilterRecord → ℕ → Fault → Bool
asks_fault which first f = asks_for which first f.stamp f.address f.name f.destination f.pgn

-- those that are asked for, in order
abbrev pub faults_taken : FilterRecord → ℕ → List Fault → List Fault
faults_taken which first faults = filter (asks_fault which first) faults

abbrev pub fault_of : Hearing → State → Lamps → Option Code → Fault
fault_of m how lamps code = said_at m (says how lamps code)

abbrev pub clearing_of : Hearing → Kind → Fault
clearing_of m kind = said_at m (clears kind)

-- the lamps are told once, before the codes, if they weren't told so before: in these words, of which there are none where all are off
abbrev pub lights_since : List ℕ → Lamps → (Saying → Fault) → List Fault
lights_since before lamps said = if bytes_eq (lamps_told lamps) before then [] else said (lights lamps) ∷ []

-- each code, in order; of no code, that there is none
abbrev pub codes_or_none : List Code → List (Option Code)
codes_or_none [] = None ∷ []
codes_or_none (code ∷ more) = Some code ∷ map (λ c. Some c) more

abbrev pub faults_by : Option Version → Hearing → Option Kind → Option Lamps → List Fault
faults_by version m None lamps = []
faults_by version m (Some kind) None = []
faults_by version m (Some kind) (Some lamps) =
    lights_since [] lamps (said_at m) ++ map (fault_of m (Is kind) lamps) (codes_or_none (codes_by version m.message.bytes))

-- which codes it asks to clear, or which it tells, by the version of the conversion for its controller
abbrev pub faults_or_clearing : List Conversion → Hearing → Option Kind → List Fault
faults_or_clearing conversions m (Some kind) = clearing_of m kind ∷ []
faults_or_clearing conversions m None =
    faults_by (version_for conversions m.name) m (kind_of m.message.pgn) (lamps_of m.message.bytes)

-- ---- what is asked for by its SPN

-- by which names faults are written, of which parameters alone, where some are asked for, and whether lamps have a line of their own
pub record Manner : Type 0 where
  pub naming : NamingRecord
  pub spns : Option (List ℕ)
  pub lights : Bool

-- each record and each object of a code has its lamps
abbrev pub has_lights : Format → Bool
has_lights (Line clock) = true
has_lights Record = false
has_lights Object = false

abbrev pub manner_in : Format → NamingRecord → Option (List ℕ) → Manner
manner_in form naming spns = record { naming = naming; spns = spns; lights = has_lights form }

abbrev pub is_number_of : List ℕ → ℕ → Bool
is_number_of spns spn = list_any (λ asked. asked == spn) spns

-- what its number may be
abbrev pub is_parameter_of : List ℕ → Parameter → Bool
is_parameter_of spns (Known spn) = is_number_of spns spn
is_parameter_of spns (OneOf these) =
    is_number_of spns these.version_1 || (is_number_of spns these.version_2 || is_number_of spns these.version_3)

-- of no code nothing is said by a number
abbrev pub names_asked : Option (List ℕ) → Option Code → Bool
names_asked None code = true
names_asked (Some spns) None = false
names_asked (Some spns) (Some code) = is_parameter_of spns code.parameter

abbrev pub lights_asked : Manner → Bool
lights_asked manner = manner.lights && names_asked manner.spns None

abbrev pub saying_asked : Manner → Saying → Bool
saying_asked manner (lights lamps) = lights_asked manner
saying_asked manner (says how lamps code) = names_asked manner.spns code
saying_asked manner (clears kind) = names_asked manner.spns None

abbrev pub says_asked : Manner → Fault → Bool
says_asked manner f = saying_asked manner f.saying

-- how many of these lines there are
abbrev pub lines_in : Manner → List Fault → ℕ
lines_in manner faults = count_by (says_asked manner) faults

-- what is told of a message
abbrev pub faults_in : List Conversion → Hearing → List Fault
faults_in conversions m = faults_or_clearing conversions m (cleared_in m.message.pgn m.message.bytes)

-- what a parameter is called, where its SPN is known
abbrev pub name_of : NamingRecord → Parameter → Option (List ℕ)
name_of naming (Known spn) = parameter_by naming spn
name_of naming (OneOf spns) = None

abbrev pub name_in : NamingRecord → Code → Option (List ℕ)
name_in naming code = name_of naming code.parameter
