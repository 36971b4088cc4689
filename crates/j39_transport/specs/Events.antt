-- What an assembler is told, and what it is to a key.
use Rattle.std.specs.Prelude.{ℕ, Bool, false, ◌&&◌, ◌||◌, List, [], get_or, drop, ◌==◌, slice_index}
use Rattle.j39_frame.specs.Frame.{FrameRecord}
use Rattle.j39_transport.specs.Key.{Key, sender, is_key}
use Rattle.j39_transport.specs.Frames.{is_announcement, is_packet, is_clear_to_send, is_end, is_rival, size_named, packets_named, pgn_named}

-- a frame came, or a source is to be forgotten
pub data Event : Type 0 where
  Frame : FrameRecord → Event
  Forget : ℕ → Event

-- what stands past the end of the list: nothing (no address is 255)
abbrev pub at : List Event → ℕ → Event
at E i = get_or E i (Forget 255)

unfoldable pub announces : Key → Event → Bool
announces k (Frame f) = is_announcement k f
announces k (Forget t) = false

unfoldable pub sends : Key → Event → Bool
sends k (Frame f) = is_packet k f
sends k (Forget t) = false

-- a CTS of the pair and the group g
unfoldable pub grants : Key → ℕ → Event → Bool
grants k g (Frame f) = is_clear_to_send k g f
grants k g (Forget t) = false

-- a forget of the source; of a transfer of the group g also an acknowledgment or an abort
unfoldable pub ends : Key → ℕ → Event → Bool
ends k g (Frame f) = is_end k g f
ends k g (Forget t) = sender k == t && is_key k

-- a directed announcement of whatever pair, where k is directed
unfoldable pub rivals : Key → Event → Bool
rivals k (Frame f) = is_rival k f
rivals k (Forget t) = false

-- the number and the seven bytes of a packet; what an announcement names; the stamp
unfoldable pub number : Event → ℕ
number (Frame f) = slice_index f.bytes 0
number (Forget t) = 0

unfoldable pub payload : Event → List ℕ
payload (Frame f) = drop 1 f.bytes
payload (Forget t) = []

unfoldable pub size : Event → ℕ
size (Frame f) = size_named f
size (Forget t) = 0

unfoldable pub packets : Event → ℕ
packets (Frame f) = packets_named f
packets (Forget t) = 0

unfoldable pub group : Event → ℕ
group (Frame f) = pgn_named f
group (Forget t) = 0

unfoldable pub stamp : Event → ℕ
stamp (Frame f) = f.stamp
stamp (Forget t) = 0

-- a frame of the message of group g
abbrev pub belongs : Key → ℕ → Event → Bool
belongs k g e = announces k e || sends k e || grants k g e

-- e is a packet of k numbered j
abbrev pub is_numbered : Key → ℕ → Event → Bool
is_numbered k j e = sends k e && number e == j
