-- What the frames of the transport protocol say (J1939-21, 5.10.3 and 5.10.4).
use Rattle.std.specs.Prelude.{ℕ, List, ◌∷◌, length, drop, slice_index, Option, Some, None, ◌==◌, ◌&&◌, if◌then◌else◌}
use Rattle.byteorder.specs.Endian.{little_bytes}
use Rattle.j39_frame.specs.Address.{global_address}
use Rattle.j39_frame.specs.Frame.{FrameRecord}
use Rattle.j39_frame.specs.Network.{transport_control_group, transport_data_group}
use Rattle.j39_transport.specs.Cutting.{ToSend, transport_id, announcement_bytes}
use Rattle.j39_transport.specs.Frames.{group_of, source_of, destination_of, size_named, packets_named, pgn_named, names_message}
use Rattle.j39_transport.specs.Key.{Broadcast, Directed, is_key, key_between}
use Rattle.j39_transport.specs.Protocol.{request_to_send, clear_to_send, acknowledgment, connection_abort, broadcast_announce, no_limit, filler}

-- a broadcast announce message (BAM), a request to send (RTS), a clear to send (CTS; one of 0 packets holds), an
-- end-of-message acknowledgment, an abort, and a packet with its data
pub data Signal : Type 0 where
  BroadcastAnnounce : (size packets pgn : ℕ) → Signal
  RequestToSend : (size packets most pgn : ℕ) → Signal
  ClearToSend : (count next pgn : ℕ) → Signal
  Acknowledgment : (size packets pgn : ℕ) → Signal
  Abort : (reason pgn : ℕ) → Signal
  Packet : (number : ℕ) (part : List ℕ) → Signal

-- ---- reading

-- a BAM goes to all, an RTS to one address, a packet to either, each from an address; a BAM or an RTS whose size, packets
-- and group don't agree says nothing
unfoldable pub broadcast_in : FrameRecord → Option Signal
broadcast_in f =
    if is_key (Broadcast (source_of f.id)) && destination_of f.id == global_address && names_message f
    then Some (BroadcastAnnounce (size_named f) (packets_named f) (pgn_named f))
    else None

unfoldable pub request_in : FrameRecord → Option Signal
request_in f =
    if is_key (Directed (source_of f.id) (destination_of f.id)) && names_message f
    then Some (RequestToSend (size_named f) (packets_named f) (slice_index f.bytes 4) (pgn_named f))
    else None

unfoldable pub packet_in : FrameRecord → Option Signal
packet_in f =
    if is_key (key_between (source_of f.id) (destination_of f.id))
    then Some (Packet (slice_index f.bytes 0) (drop 1 f.bytes))
    else None

-- a TP.CM frame of 8 bytes, by its first byte
unfoldable pub control_in : FrameRecord → Option Signal
control_in f =
    if slice_index f.bytes 0 == request_to_send then request_in f
    else if slice_index f.bytes 0 == broadcast_announce then broadcast_in f
    else if slice_index f.bytes 0 == clear_to_send then Some
    (ClearToSend (slice_index f.bytes 1) (slice_index f.bytes 2) (pgn_named f))
    else if slice_index f.bytes 0 == acknowledgment then Some
    (Acknowledgment (size_named f) (packets_named f) (pgn_named f))
    else if slice_index f.bytes 0 == connection_abort then Some (Abort (slice_index f.bytes 1) (pgn_named f))
    else None

-- what f says, from its source to where it goes; nothing where it is of another group, or hasn't 8 bytes
unfoldable pub said_by : FrameRecord → Option Signal
said_by f =
    if group_of f.id == transport_data_group && length f.bytes == 8 then packet_in f
    else if group_of f.id == transport_control_group && length f.bytes == 8 then control_in f
    else None

-- what f says from s to d
unfoldable pub said_between : ℕ → ℕ → FrameRecord → Option Signal
said_between s d f = if source_of f.id == s && destination_of f.id == d then said_by f else None

-- ---- writing

abbrev pub group_with : Signal → ℕ
group_with (BroadcastAnnounce size packets pgn) = transport_control_group
group_with (RequestToSend size packets most pgn) = transport_control_group
group_with (ClearToSend count next pgn) = transport_control_group
group_with (Acknowledgment size packets pgn) = transport_control_group
group_with (Abort reason pgn) = transport_control_group
group_with (Packet number part) = transport_data_group

abbrev pub bytes_with : Signal → List ℕ
bytes_with (BroadcastAnnounce size packets pgn) = announcement_bytes broadcast_announce size packets no_limit pgn
bytes_with (RequestToSend size packets most pgn) = announcement_bytes request_to_send size packets most pgn
bytes_with (ClearToSend count next pgn) = clear_to_send ∷ count ∷ next ∷ filler ∷ filler ∷ little_bytes 3 pgn
bytes_with (Acknowledgment size packets pgn) = announcement_bytes acknowledgment size packets filler pgn
bytes_with (Abort reason pgn) = connection_abort ∷ reason ∷ filler ∷ filler ∷ filler ∷ little_bytes 3 pgn
bytes_with (Packet number part) = number ∷ part

-- the frame that says it from s to d
unfoldable pub written : ℕ → ℕ → Signal → ToSend
written s d a = record { id = transport_id (group_with a) s d; bytes = bytes_with a }
