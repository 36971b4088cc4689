-- What is kept of a message of faults, for each address.
use Rattle.std.specs.Prelude.{◌&&◌, not, ℕ, Bool, List, [], Option, Some, None, if◌then◌else◌, map, option_map, slice_index_or, take, true}
use Rattle.j39_memory.specs.declared.stored.Stored.{Stored}
use Rattle.j39_memory.specs.Stored.{value_of}
use Rattle.j39_frame.specs.Origin.{is_same_or_none}
use Rattle.j39_faults.specs.Sameness.{tells_same}
use Rattle.j39_faults.specs.declared.conversion.Version.{Version}
use Rattle.j39_fault_reports.specs.News.{goes_on}

-- the bytes of a message, and the NAME that it came under
pub record LastRecord : Type 0 where
  pub bytes : List ℕ
  pub name : Option ℕ

-- under which NAME
abbrev pub name_of : LastRecord → Option ℕ
name_of said = said.name

-- no message has more bytes
abbrev pub said_by : List ℕ → Option ℕ → LastRecord
said_by bytes name = record { bytes = take 1785 bytes; name = name }

abbrev pub is_said : Option Version → LastRecord → List ℕ → Option ℕ → Bool
is_said version s bytes name = tells_same version s.bytes bytes && is_same_or_none s.name name

abbrev pub differs : Option Version → Option LastRecord → List ℕ → Option ℕ → Bool
differs version None bytes name = true
differs version (Some s) bytes name = not (is_said version s bytes name)

-- its bytes, if it may be of who speaks now
abbrev pub said_before : Option LastRecord → Option ℕ → List ℕ
said_before None name = []
said_before (Some s) name = if goes_on s.name name then s.bytes else []

abbrev pub LastMessages : Type 0
LastMessages = List (Option LastRecord)

abbrev pub at : LastMessages → ℕ → Option LastRecord
at places a = slice_index_or places a None

-- what is stored there
abbrev pub stored_in : Option (Stored LastRecord) → Option LastRecord
stored_in = option_map value_of

abbrev pub shown : List (Option (Stored LastRecord)) → LastMessages
shown = map stored_in
