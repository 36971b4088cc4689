-- Requests for address claims (J1939-21, 5.4.2; J1939-81, 4.2.1).
use Rattle.std.specs.Prelude.{ℕ, ◌==◌, ◌&&◌, nat_le, length, Option, None, if◌then◌else◌}
use Rattle.byteorder.specs.Endian.{little_number}
use Rattle.j39_frame.specs.Frame.{FrameRecord}
use Rattle.j39_frame.specs.Identifier.{pgn_of, destination_of}
use Rattle.j39_frame.specs.Network.{address_claimed_group, request_group}

-- where a request for address claims goes: its first three bytes are that group, the low byte first
abbrev pub request_of : FrameRecord → Option ℕ
request_of f =
    if pgn_of f.id == request_group && nat_le 3 (length f.bytes) && little_number 3 f.bytes == address_claimed_group
    then destination_of f.id
    else None
