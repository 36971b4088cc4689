-- What announcements and sessions of the code show.
use Rattle.std.specs.Prelude.{◌*◌, ℕ, List, [], take}
use Rattle.j39_frame.specs.Pgn.{pgn_raw}
use Rattle.j39_transport.specs.Session.{SessionRecord}
use Rattle.j39_transport.specs.declared.announcement.Announcement.{Announcement}

-- the session of an announcement, with the bytes of so many packets at the front of its buffer
abbrev pub session_of : ℕ → ℕ → Announcement → ℕ → List ℕ → ℕ → SessionRecord
session_of source destination a count buffer last = record {
  source = source;
  destination = destination;
  group = pgn_raw a.group;
  size = a.size;
  packets = a.packets;
  count = count;
  bytes = take (7 * count) buffer;
  last = last;
}

abbrev pub opened_by : ℕ → ℕ → Announcement → ℕ → SessionRecord
opened_by source destination a stamp = record {
  source = source;
  destination = destination;
  group = pgn_raw a.group;
  size = a.size;
  packets = a.packets;
  count = 0;
  bytes = [];
  last = stamp;
}
