-- Which messages are of faults, and which of them are news (J1939-73, 5.7).
use Rattle.std.specs.Prelude.{◌==◌, ◌&&◌, ◌||◌, not, ℕ, Bool, true, false, List, [], Option, Some, None}
use Rattle.std.specs.Prelude.{filter, is_some, length, nat_le}
use Rattle.std.specs.List.{last_or}
use Rattle.j39_frame.specs.Network.{request_group}
use Rattle.j39_faults.specs.FaultGroups.{cleared_in, kind_of}
use Rattle.j39_faults.specs.Conversions.{version_for}
use Rattle.j39_faults.specs.Sameness.{tells_same}
use Rattle.j39_faults.specs.declared.conversion.Conversion.{Conversion}
use Rattle.j39_faults.specs.declared.conversion.Version.{Version}
use Rattle.j39_frame.specs.Origin.{is_same_or_none}
use Rattle.j39_listen.specs.Chooses.{which_of}
use Rattle.j39_listen.specs.Filter.{FilterRecord, no_filter}
use Rattle.j39_listen.specs.Heard.{Hearing}
use Rattle.j39_fault_reports.specs.declared.fault_news.telling.Choice.{Choice}
use Rattle.j39_fault_reports.specs.declared.fault_news.telling.Telling.{Telling}
use Rattle.j39_fault_reports.specs.declared.fault_news.telling.Telling.TheVariants.{News}

-- what is told of messages, by which versions of the conversion the SPNs of controllers are read, and of which messages it is told
pub record Chosen : Type 0 where
  pub telling : Telling
  pub conversions : List Conversion
  pub asked : FilterRecord

abbrev pub chosen_of : Choice → Chosen
chosen_of choice = record { telling = choice.telling; conversions = choice.conversions.now; asked = which_of choice.filter }

-- those that are news, no version of the conversion known
abbrev pub news : Chosen
news = record { telling = News; conversions = []; asked = no_filter }

-- the groups of faults are heard in one frame, too, and so are requests
abbrev pub is_fault_group : ℕ → Bool
is_fault_group pgn = is_some (kind_of pgn) || pgn == request_group

-- a message of codes is of such a group, and has the two bytes of the lamps (own)
abbrev pub is_of_codes : Hearing → Bool
is_of_codes h = is_some (kind_of h.message.pgn) && nat_le 2 (length h.message.bytes)

-- one that asks to clear them
abbrev pub is_clearing : Hearing → Bool
is_clearing h = is_some (cleared_in h.message.pgn h.message.bytes)

-- a message of faults is either
abbrev pub is_of_faults : Hearing → Bool
is_of_faults h = is_clearing h || is_of_codes h

abbrev pub faults_among : List Hearing → List Hearing
faults_among hs = filter is_of_faults hs

-- who speaks under the later NAME may be who spoke before: under the same, or before a claim told any
abbrev pub goes_on : Option ℕ → Option ℕ → Bool
goes_on None later = true
goes_on (Some a) None = false
goes_on (Some a) (Some b) = a == b

-- the last of these messages that is of this group, from this address
unfoldable pub last_from : ℕ → ℕ → List Hearing → Option Hearing
last_from pgn source ms = last_or None (filter (λ h. h.message.pgn == pgn && h.message.source == source) ms)

-- it tells something else, or under another NAME, than what was said before, or nothing was
abbrev pub says_other : Option Version → Option Hearing → Hearing → Bool
says_other version None m = true
says_other version (Some l) m =
    not (tells_same version l.message.bytes m.message.bytes && is_same_or_none l.name m.name)

-- behind these messages it is news; who asks to clear codes is heard each time
abbrev pub is_news : List Conversion → List Hearing → Hearing → Bool
is_news conversions before m =
    is_clearing m || says_other (version_for conversions m.name) (last_from m.message.pgn m.message.source before) m
