-- A log in which 0B asks for a packet of a transfer again, and what was published in it.
use Rattle.std.specs.Prelude.{ℕ, List, [], ◌∷◌, ◌++◌, Some, None, codes}
use Rattle.j39_frame.specs.Frame.{FrameRecord}
use Rattle.j39_groups.specs.Value.{ValueRecord}
use Rattle.j39_groups.specs.Value.ValueRecord.{text}
use Rattle.j39_listen.specs.Published.{Item, Publisher, Publishing}
use Rattle.j39_listen.specs.Report.{Entry}
use Rattle.j39_transport.specs.Key.Key.{Directed}

abbrev pub frame : ℕ → ℕ → List ℕ → FrameRecord
frame stamp id bytes = record { stamp = stamp; id = id; bytes = bytes }

-- of a group that has no destination
abbrev pub entry : ℕ → Publisher → ℕ → ℕ → ValueRecord → Entry
entry stamp publisher pgn spn value = record {
  stamp = stamp;
  address = publisher.address;
  destination = None;
  name = publisher.name;
  pgn = pgn;
  spn = spn;
  value = value;
}

abbrev pub padding : List ℕ
padding = 0xFF ∷ 0xFF ∷ 0xFF ∷ []

abbrev pub engine : Publisher
engine = record { name = Some 0x8000000001401234; address = 0 }

abbrev pub engine_claim : FrameRecord
engine_claim = frame 1000000 0x18EEFF00 (0x34 ∷ 0x12 ∷ 0x40 ∷ 0x01 ∷ 0 ∷ 0 ∷ 0 ∷ 0x80 ∷ [])

-- RTS: 18 bytes of group 65260
abbrev pub vin_requested : FrameRecord
vin_requested = frame 2000000 0x1CEC0B00 (16 ∷ 18 ∷ 0 ∷ 3 ∷ 0xFF ∷ 0xEC ∷ 0xFE ∷ 0 ∷ [])

-- CTS: three packets from 1 on
abbrev pub three_granted : FrameRecord
three_granted = frame 2010000 0x1CEC000B (17 ∷ 3 ∷ 1 ∷ 0xFF ∷ 0xFF ∷ 0xEC ∷ 0xFE ∷ 0 ∷ [])

-- CTS: two packets from 2 on
abbrev pub two_granted : FrameRecord
two_granted = frame 2050000 0x1CEC000B (17 ∷ 2 ∷ 2 ∷ 0xFF ∷ 0xFF ∷ 0xEC ∷ 0xFE ∷ 0 ∷ [])

abbrev pub directed_first : FrameRecord
directed_first = frame 2020000 0x1CEB0B00 (1 ∷ codes "1FUJA6C")

abbrev pub directed_second : FrameRecord
directed_second = frame 2060000 0x1CEB0B00 (2 ∷ codes "V12LK12")

abbrev pub directed_third : ℕ → FrameRecord
directed_third stamp = frame stamp 0x1CEB0B00 (3 ∷ codes "345*" ++ padding)

abbrev pub vin_acknowledged : FrameRecord
vin_acknowledged = frame 2080000 0x1CEC000B (19 ∷ 18 ∷ 0 ∷ 3 ∷ 0xFF ∷ 0xEC ∷ 0xFE ∷ 0 ∷ [])

-- the third packet comes before the second, and again behind it
abbrev pub example_frames : List FrameRecord
example_frames =
    engine_claim
    ∷ vin_requested
    ∷ three_granted
    ∷ directed_first
    ∷ directed_third 2040000
    ∷ two_granted
    ∷ directed_second
    ∷ directed_third 2070000
    ∷ vin_acknowledged
    ∷ []

abbrev pub directed_item : List ℕ → Item
directed_item places = record {
  publisher = engine;
  key = Directed 0 11;
  message = record { source = 0; pgn = 65260; bytes = codes "1FUJA6CV12LK12345*" };
  places = places;
}

abbrev pub example : Publishing
example = record { publishers = engine ∷ []; items = directed_item (1 ∷ 3 ∷ 6 ∷ 7 ∷ []) ∷ [] }

abbrev pub vin_value : ℕ → Entry
vin_value stamp = entry stamp engine 65260 237 (text (codes "1FUJA6CV12LK12345"))

-- the same, sent to the one that it is for
abbrev pub vin_sent : ℕ → Entry
vin_sent stamp = record (vin_value stamp) { destination = Some 11 }

abbrev pub example_values : List Entry
example_values = vin_sent 2070000 ∷ []
