-- Packets, as their frames say them.
use Rattle.j39_sessions.proofs.Common.{if◌then◌else◌, ◌&&◌, ◌==◌, ◌≡◌, arith, broadcast_in, control_in, FrameRecord, key_between, length, nat_lt, None, not, number_in, packed_in, pgn_of, ps_of, request_in, said_between, said_to, slice_index, Some, source_of, transport_data_group, ℕ}
use Rattle.j39_transport.specs.Signals.{said_by}
use Rattle.j39_transport.specs.Frames as frames

none_by : (f : FrameRecord) → number_in (control_in f) ≡ None
unfolding control_in request_in broadcast_in
none_by f = grind arith

pub number_is : (own : ℕ) (f : FrameRecord) → number_in (said_to own f)
    ≡ (if (nat_lt (source_of f.id) 254 && (ps_of f.id == own && not (own == 254))) && (pgn_of f.id == transport_data_group && length f.bytes == 8)
    then Some (slice_index f.bytes 0) else None)
unfolding said_to said_between said_by packed_in key_between frames.source_of frames.destination_of frames.group_of
number_is own f = grind (arith, none_by)
