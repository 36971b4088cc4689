-- What contracts see of a message that was heard.
use Rattle.std.specs.Option.{option_map}
use Rattle.j39_address.specs.Name.{name_raw}
use Rattle.j39_frame.specs.Pgn.{pgn_raw}
use Rattle.j39_frame.specs.Stamp.{stamp_micros}
use Rattle.j39_transport.specs.Message.{MessageRecord}
use Rattle.j39_transport.specs.declared.message.Message.{Message}
use Rattle.j39_listen.specs.Heard.{Hearing}
use Rattle.j39_listen.specs.declared.heard.Heard.{Heard}

abbrev pub message_of : Message → MessageRecord
message_of m = record { source = m.source; pgn = pgn_raw m.pgn; bytes = m.payload.now }

abbrev pub hearing_of : Heard → Hearing
hearing_of h = record {
  message = message_of h.message;
  destination = h.destination;
  stamp = stamp_micros h.message.stamp;
  name =
      option_map name_raw h.name;
}
