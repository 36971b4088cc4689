-- The frames that a message is cut into (J1939-21, 5.10.1 to 5.10.4).
use Rattle.std.specs.Prelude.{◌+◌, ◌-◌, ◌*◌, ◌^◌, ◌==◌, ℕ, List, ◌∷◌, ◌++◌, length, take, drop, map, replicate, if◌then◌else◌}
use Rattle.std.specs.List.{range_with_len}
use Rattle.byteorder.specs.Endian.{little_bytes}
use Rattle.j39_frame.specs.Frame.{FrameRecord}
use Rattle.j39_frame.specs.Network.{transport_control_group, transport_data_group}
use Rattle.j39_frame.specs.Identifier.{id_raw}
use Rattle.j39_frame.specs.declared.identifier.Id.{Id}
use Rattle.j39_transport.specs.Key.{Key, sender, goes_to, opening}
use Rattle.j39_transport.specs.Message.{MessageRecord, packets_of}
use Rattle.j39_transport.specs.Protocol.{no_limit, filler}

-- a frame that is to be sent: it has no moment yet
pub record ToSend : Type 0 where
  pub id : ℕ
  pub bytes : List ℕ

-- the frame without its moment, and sent at one
abbrev pub without_stamp : FrameRecord → ToSend
without_stamp f = record { id = f.id; bytes = f.bytes }

abbrev pub at_moment : ℕ → ToSend → FrameRecord
at_moment now f = record { stamp = now; id = f.id; bytes = f.bytes }

-- a frame as the calls answer it
abbrev pub to_send : Id × List ℕ → ToSend
to_send f = record { id = id_raw f.0; bytes = f.1 }

-- priority 7, a group of PF below 240, where it goes and where it comes from
abbrev pub transport_id : ℕ → ℕ → ℕ → ℕ
transport_id group source destination = 7 * 2 ^ 26 + group * 2 ^ 8 + destination * 2 ^ 8 + source

-- the announcement of a message: its kind, size, packets, the most packets for one CTS (no limit in a broadcast), and
-- its group
abbrev pub announcement_bytes : ℕ → ℕ → ℕ → ℕ → ℕ → List ℕ
announcement_bytes kind size packets most pgn = (kind ∷ little_bytes 2 size) ++ (packets ∷ most ∷ little_bytes 3 pgn)

unfoldable pub announcement_of : Key → MessageRecord → ToSend
announcement_of k m = record {
  id = transport_id transport_control_group (sender k) (goes_to k);
  bytes = announcement_bytes (opening k) (length m.bytes) (packets_of m) no_limit m.pgn;
}

-- the next seven bytes, filled up
unfoldable pub packet_data : List ℕ → ℕ → List ℕ
packet_data bytes number = take 7 (drop (7 * (number - 1)) bytes ++ replicate 7 filler)

-- the packet of this number, from 1 on: the number and its data
unfoldable pub packet_of : Key → MessageRecord → ℕ → ToSend
packet_of k m number = record {
  id = transport_id transport_data_group (sender k) (goes_to k);
  bytes = number ∷ packet_data m.bytes number;
}

-- frame 0 is the announcement, frame i packet i
unfoldable pub cut_frame : Key → MessageRecord → ℕ → ToSend
cut_frame k m i = if i == 0 then announcement_of k m else packet_of k m i

-- the first count frames
abbrev pub first_frames : Key → MessageRecord → ℕ → List ToSend
first_frames k m count = map (cut_frame k m) (range_with_len 0 count)

-- the announcement and all packets
abbrev pub cut_frames : Key → MessageRecord → List ToSend
cut_frames k m = first_frames k m (packets_of m + 1)
