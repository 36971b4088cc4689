-- What is kept of the last message of active codes of each address, and how a message more changes it.
use Rattle.std.specs.Prelude.{◌∷◌, [], ◌+◌, ℕ, Bool, true, false, List, Option, Some, None, if◌then◌else◌, map, option_map, slice_index_or}
use Rattle.j39_memory.specs.declared.stored.Stored.{Stored}
use Rattle.j39_memory.specs.Stored.{value_of}
use Rattle.j39_frame.specs.Stamp.{stamp_micros}
use Rattle.j39_faults.specs.Changes.{is_same_fault}
use Rattle.j39_faults.specs.declared.code.Code.{Code}
use Rattle.j39_faults.specs.declared.conversion.Conversion.{Conversion}
use Rattle.j39_faults.specs.declared.lamps.Lamps.{Lamps}
use Rattle.j39_listen.specs.Counting.{capped}
use Rattle.j39_listen.specs.Heard.{Hearing}
use Rattle.j39_fault_reports.specs.Faults.{codes_or_none}
use Rattle.j39_fault_reports.specs.FaultsNow.{codes_in}
use Rattle.j39_fault_reports.specs.News.{goes_on}
use Rattle.j39_fault_reports.specs.declared.current_faults.standing.Standing.{Standing}

-- a code, or that there is none; since when, and how often
pub record StandingRecord : Type 0 where
  pub code : Option Code
  pub since : ℕ
  pub often : ℕ

abbrev pub standing_record : Standing → StandingRecord
standing_record s = record { code = s.code; since = stamp_micros s.since; often = s.often }

-- what the last message of a controller says, to whom, and of which group it is
pub record LastRecord : Type 0 where
  pub name : Option ℕ
  pub stamp : ℕ
  pub destination : Option ℕ
  pub pgn : ℕ
  pub lamps : Lamps
  pub standings : List StandingRecord

-- at each address
abbrev pub LastActives : Type 0
LastActives = List (Option LastRecord)

abbrev pub at : LastActives → ℕ → Option LastRecord
at places a = slice_index_or places a None

abbrev pub stored_in : Option (Stored LastRecord) → Option LastRecord
stored_in = option_map value_of

abbrev pub shown : List (Option (Stored LastRecord)) → LastActives
shown = map stored_in

-- ---- one message more

abbrev pub is_same_code : Option Code → Option Code → Bool
is_same_code None None = true
is_same_code None (Some b) = false
is_same_code (Some a) None = false
is_same_code (Some a) (Some b) = is_same_fault a b

-- the first of these that is of the code
abbrev pub found_in : List StandingRecord → Option Code → Option StandingRecord
found_in [] code = None
found_in (one ∷ more) code = if is_same_code one.code code then Some one else found_in more code

abbrev pub going_on : Option StandingRecord → Option Code → ℕ → StandingRecord
going_on None code stamp = record { code = code; since = stamp; often = 1 }
going_on (Some before) code stamp = record { code = code; since = before.since; often = capped (before.often + 1) }

abbrev pub continued : List StandingRecord → ℕ → Option Code → StandingRecord
continued before stamp code = going_on (found_in before code) code stamp

abbrev pub next_standings : List StandingRecord → ℕ → List Code → List StandingRecord
next_standings before stamp cs = map (continued before stamp) (codes_or_none cs)

-- what stood, if it may be of who speaks now under this NAME
abbrev pub standings_under : Option LastRecord → Option ℕ → List StandingRecord
standings_under None name = []
standings_under (Some last) name = if goes_on last.name name then last.standings else []

abbrev pub last_by : List Conversion → Option LastRecord → Hearing → Lamps → LastRecord
last_by conversions before m lamps = record {
  name = m.name;
  stamp = m.stamp;
  destination = m.destination;
  pgn = m.message.pgn;
  lamps = lamps;
  standings = next_standings (standings_under before m.name) m.stamp (codes_in conversions m);
}

-- under which NAME
abbrev pub name_in : LastRecord → Option ℕ
name_in last = last.name
