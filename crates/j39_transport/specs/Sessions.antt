-- Places with sessions, and how they are stored in them.
use Rattle.std.specs.Prelude.{ℕ, suc, ◌*◌, ◌==◌, Bool, false, ◌&&◌, if◌then◌else◌, List, [], ◌∷◌, map, slice_index_or, take, Option, Some, None, All}
use Rattle.std.specs.Option.{option_map}
use Rattle.j39_memory.specs.declared.stored.Stored.{Stored}
use Rattle.j39_memory.specs.Stored.{value_of}
use Rattle.j39_transport.specs.Session.{SessionRecord, IsOpen}

abbrev pub Sessions : Type 0
Sessions = List (Option SessionRecord)

abbrev pub at : Sessions → ℕ → Option SessionRecord
at t i = slice_index_or t i None

-- what is stored there
abbrev pub stored_in : Option (Stored SessionRecord) → Option SessionRecord
stored_in = option_map value_of

abbrev pub shown : List (Option (Stored SessionRecord)) → Sessions
shown = map stored_in

-- every session is an open message
pub record AreOpen (t : Sessions) : Type 0 where
  pub each : All IsOpen t

-- a session of this source and destination
abbrev pub is_of : ℕ → ℕ → Option SessionRecord → Bool
is_of s d None = false
is_of s d (Some x) = x.source == s && x.destination == d

-- its first place, counted from k
unfoldable pub find_from : ℕ → ℕ → ℕ → Sessions → Option ℕ
find_from s d k [] = None
find_from s d k (p ∷ t) = if is_of s d p then Some k else find_from s d (suc k) t

unfoldable pub find : ℕ → ℕ → Sessions → Option ℕ
find s d t = find_from s d 0 t

-- a session in front, and the last place falls out
abbrev pub pushed : ℕ → SessionRecord → Sessions → Sessions
pushed n s t = Some s ∷ take n t

-- those of this source are left out
abbrev pub is_from : ℕ → Option SessionRecord → Bool
is_from s None = false
is_from s (Some x) = x.source == s

abbrev pub without : ℕ → Option SessionRecord → Option SessionRecord
without s p = if is_from s p then None else p

unfoldable pub forgotten : ℕ → Sessions → Sessions
forgotten s t = map (without s) t

-- the bytes that a session has joined, and whether there is one
abbrev pub bytes_in : Option SessionRecord → ℕ
bytes_in None = 0
bytes_in (Some s) = 7 * s.count

abbrev pub open_in : Option SessionRecord → ℕ
open_in None = 0
open_in (Some s) = 1
