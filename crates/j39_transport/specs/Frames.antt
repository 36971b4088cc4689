-- The frames of the transport protocol (J1939-21, 5.10).
use Rattle.std.specs.Prelude.{ℕ, ◌+◌, ◌*◌, ◌/◌, ◌^◌, Bool, false, ◌&&◌, ◌||◌, length, nat_lt, nat_le, ◌==◌, slice_index}
use Rattle.j39_frame.specs.Frame.{FrameRecord}
use Rattle.j39_frame.specs.Identifier as identifier
use Rattle.j39_frame.specs.Network.{transport_control_group, transport_data_group}
use Rattle.j39_transport.specs.Key.{Key, sender, goes_to, opening, is_key}
use Rattle.j39_transport.specs.Key.Key.{Broadcast, Directed}
use Rattle.j39_transport.specs.Protocol.{clear_to_send, acknowledgment, connection_abort}

-- the group of an identifier, its source, and where it goes (PS, in the two groups of the transport protocol)
unfoldable pub group_of : ℕ → ℕ
group_of id = identifier.pgn_of id

unfoldable pub source_of : ℕ → ℕ
source_of id = identifier.source_of id

unfoldable pub destination_of : ℕ → ℕ
destination_of id = identifier.ps_of id

-- f is of this group, from s to d, with exactly 8 bytes
unfoldable pub goes : ℕ → ℕ → ℕ → FrameRecord → Bool
goes pgn s d f = group_of f.id == pgn && destination_of f.id == d && source_of f.id == s && length f.bytes == 8

-- what a TP.CM frame names: the size of a message in bytes, its number of packets, and its group
abbrev pub size_named : FrameRecord → ℕ
size_named f = slice_index f.bytes 1 + 256 * slice_index f.bytes 2

abbrev pub packets_named : FrameRecord → ℕ
packets_named f = slice_index f.bytes 3

abbrev pub pgn_named : FrameRecord → ℕ
pgn_named f = slice_index f.bytes 5 + 256 * slice_index f.bytes 6 + 65536 * slice_index f.bytes 7

-- a message of these bytes takes so many packets of seven
abbrev pub packets_for : ℕ → ℕ
packets_for size = (size + 6) / 7

-- the size is 9 to 1,785, the packets are as many as it takes, and the group has 18 bits
abbrev pub agree : ℕ → ℕ → ℕ → Bool
agree size packets pgn = nat_le 9 size && nat_le size 1785 && packets == packets_for size && nat_lt pgn (2 ^ 18)

unfoldable pub names_message : FrameRecord → Bool
names_message f = agree (size_named f) (packets_named f) (pgn_named f)

-- f announces a message of k: a BAM or an RTS
unfoldable pub is_announcement : Key → FrameRecord → Bool
is_announcement k f =
    is_key k && goes transport_control_group (sender k) (goes_to k) f && slice_index f.bytes 0 == opening k
    && names_message f

-- f is a packet of k: a TP.DT frame
unfoldable pub is_packet : Key → FrameRecord → Bool
is_packet k f = is_key k && goes transport_data_group (sender k) (goes_to k) f

-- f is a TP.CM frame from s to d with this first byte and the group g
unfoldable pub is_control : ℕ → ℕ → ℕ → ℕ → FrameRecord → Bool
is_control first s d g f = goes transport_control_group s d f && slice_index f.bytes 0 == first && pgn_named f == g

-- f lets the message of group g go on: a CTS of its receiver, also one that holds
unfoldable pub is_clear_to_send : Key → ℕ → FrameRecord → Bool
is_clear_to_send (Broadcast s) g f = false
is_clear_to_send (Directed s d) g f = is_control clear_to_send d s g f

-- f ends the message of group g: an end-of-message acknowledgment of its receiver, or an abort of either
unfoldable pub is_end : Key → ℕ → FrameRecord → Bool
is_end (Broadcast s) g f = false
is_end (Directed s d) g f =
    is_control acknowledgment d s g f || is_control connection_abort d s g f || is_control connection_abort s d g f

-- f is a directed announcement, of whatever pair; it counts against a directed message alone
unfoldable pub is_rival : Key → FrameRecord → Bool
is_rival (Broadcast s) f = false
is_rival (Directed s d) f = is_announcement (Directed (source_of f.id) (destination_of f.id)) f
