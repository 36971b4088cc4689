-- Logs with no transfer, and what was published in them.
use Prim.Native.String.{String}
use Rattle.std.specs.Prelude.{◌≡◌, ℕ, ℤ, pos, neg_ℤ, List, [], ◌∷◌, ◌++◌, Some, None, codes}
use Rattle.j39_frame.specs.Frame.{FrameRecord}
use Rattle.j39_groups.specs.Table.{the_table}
use Rattle.j39_groups.specs.Value.{ValueRecord, number, text}
use Rattle.j39_listen.specs.TransferExample.{engine, engine_claim, entry, frame, padding, vin_value}
use Rattle.j39_listen.specs.Published.{Item, Published, Publisher, Publishing}
use Rattle.j39_listen.specs.Report.{Entry}
use Rattle.j39_listen.specs.Values.{no_place, values}
use Rattle.j39_transport.specs.Key.Key.{Broadcast}

-- this was published in F, with these values
abbrev pub Publishes : List FrameRecord → Publishing → List Entry → Type 0
Publishes F P entries = Published the_table F P × (values the_table F P no_place ≡ entries)

-- a message of a publisher to all, in the frames at these places
abbrev item : Publisher → ℕ → List ℕ → List ℕ → Item
item publisher pgn bytes places = record {
  publisher = publisher;
  key = Broadcast publisher.address;
  message = record { source = publisher.address; pgn = pgn; bytes = bytes };
  places = places;
}

abbrev measured : ℤ → ℕ → ℤ → ℕ → String → ValueRecord
measured value step offset places unit = number value
    (record { step = pos step; offset = offset; places = places; unit = codes unit })

abbrev torque : ℕ → ValueRecord
torque percent = measured (pos percent) 1 (neg_ℤ (pos 125)) 0 "%"

-- in thousandths of a revolution a minute
abbrev speed : ℕ → ValueRecord
speed thousandths = measured (pos thousandths) 125 (pos 0) 3 "rpm"

-- ---- one frame of EEC1, of a controller that claims nothing

abbrev pub eec1_frame : ℕ → List ℕ → FrameRecord
eec1_frame stamp bytes = frame stamp 0x0CF00400 bytes

abbrev nobody : Publisher
nobody = record { name = None; address = 0 }

abbrev pub eec1_bytes : List ℕ
eec1_bytes = 0xF0 ∷ 0xA0 ∷ 0x96 ∷ 0xE0 ∷ 0x2E ∷ 0xFF ∷ 0xFF ∷ 0xFF ∷ []

abbrev pub eec1_frames : List FrameRecord
eec1_frames = eec1_frame 1010000 eec1_bytes ∷ []

abbrev pub eec1_item : Publisher → List ℕ → Item
eec1_item publisher places = item publisher 61444 eec1_bytes places

abbrev pub eec1 : Publishing
eec1 = record { publishers = nobody ∷ []; items = eec1_item nobody (0 ∷ []) ∷ [] }

-- of this publisher, at this moment
abbrev pub eec1_told : ℕ → Publisher → List Entry
eec1_told stamp publisher =
    entry stamp publisher 61444 512 (torque 35)
    ∷ entry stamp publisher 61444 513 (torque 25)
    ∷ entry stamp publisher 61444 190 (speed 1500000)
    ∷ []

abbrev pub eec1_values : List Entry
eec1_values = eec1_told 1010000 nobody

-- ---- a broadcast of eighteen bytes, and two frames of EEC1 meanwhile

abbrev pub speed_bytes : ℕ → List ℕ
speed_bytes low = 0xF0 ∷ 0xFF ∷ 0xFF ∷ low ∷ 0x2E ∷ 0xFF ∷ 0xFF ∷ 0xFF ∷ []

-- BAM: 18 bytes of group 65260 in three packets
abbrev pub vin_announced : FrameRecord
vin_announced = frame 2000000 0x1CECFF00 (32 ∷ 18 ∷ 0 ∷ 3 ∷ 0xFF ∷ 0xEC ∷ 0xFE ∷ 0 ∷ [])

abbrev pub vin_first : FrameRecord
vin_first = frame 2050000 0x1CEBFF00 (1 ∷ codes "1FUJA6C")

abbrev pub vin_second : FrameRecord
vin_second = frame 2100000 0x1CEBFF00 (2 ∷ codes "V12LK12")

abbrev pub vin_third : ℕ → FrameRecord
vin_third stamp = frame stamp 0x1CEBFF00 (3 ∷ codes "345*" ++ padding)

abbrev pub vin_item : List ℕ → Item
vin_item places = item engine 65260 (codes "1FUJA6CV12LK12345*") places

abbrev pub vin_frames : List FrameRecord
vin_frames =
    engine_claim
    ∷ vin_announced
    ∷ eec1_frame 2010000 (speed_bytes 0xE0)
    ∷ vin_first
    ∷ eec1_frame 2060000 (speed_bytes 0xE8)
    ∷ vin_second
    ∷ vin_third 2150000
    ∷ []

abbrev pub vin : Publishing
vin = record {
  publishers = engine ∷ [];
  items = item engine 61444 (speed_bytes 0xE0) (2 ∷ []) ∷ item engine 61444 (speed_bytes 0xE8) (4 ∷ []) ∷ vin_item
      (1 ∷ 3 ∷ 5 ∷ 6 ∷ []) ∷ [];
}

abbrev pub vin_values : List Entry
vin_values = entry 2010000 engine 61444 190 (speed 1500000) ∷ entry 2060000 engine 61444 190
    (speed 1501000) ∷ vin_value 2150000 ∷ []

-- ---- that broadcast, and another at once

abbrev pub device : Publisher
device = record { name = Some 0x8000000001405678; address = 11 }

abbrev pub device_claim : FrameRecord
device_claim = frame 1000100 0x18EEFF0B (0x78 ∷ 0x56 ∷ 0x40 ∷ 0x01 ∷ 0 ∷ 0 ∷ 0 ∷ 0x80 ∷ [])

-- BAM: 12 bytes of group 65259 in two packets
abbrev pub parts_announced : ℕ → FrameRecord
parts_announced stamp = frame stamp 0x1CECFF0B (32 ∷ 12 ∷ 0 ∷ 2 ∷ 0xFF ∷ 0xEB ∷ 0xFE ∷ 0 ∷ [])

abbrev pub parts_first : ℕ → FrameRecord
parts_first stamp = frame stamp 0x1CEBFF0B (1 ∷ codes "ACME*X1")

abbrev pub parts_second : ℕ → FrameRecord
parts_second stamp = frame stamp 0x1CEBFF0B (2 ∷ codes "*77**" ++ 0xFF ∷ 0xFF ∷ [])

abbrev pub broadcasts : List FrameRecord
broadcasts =
    vin_announced
    ∷ parts_announced 2010000
    ∷ vin_first
    ∷ parts_first 2060000
    ∷ vin_second
    ∷ parts_second 2110000
    ∷ vin_third 2150000
    ∷ []

abbrev pub parts_item : List ℕ → Item
parts_item places = item device 65259 (codes "ACME*X1*77**") places

abbrev pub two_frames : List FrameRecord
two_frames = engine_claim ∷ device_claim ∷ broadcasts

-- both, in the frames at these places
abbrev both : (vin_places parts_places : List ℕ) → Publishing
both vin_places parts_places = record {
  publishers = engine ∷ device ∷ [];
  items = vin_item vin_places ∷ parts_item parts_places ∷ [];
}

abbrev pub two : Publishing
two = both (2 ∷ 4 ∷ 6 ∷ 8 ∷ []) (3 ∷ 5 ∷ 7 ∷ [])

abbrev pub parts_values : ℕ → List Entry
parts_values stamp =
    entry stamp device 65259 586 (text (codes "ACME"))
    ∷ entry stamp device 65259 587 (text (codes "X1"))
    ∷ entry stamp device 65259 588 (text (codes "77"))
    ∷ []

abbrev pub two_values : List Entry
two_values = parts_values 2110000 ++ vin_value 2150000 ∷ []

-- ---- the same behind a packet that no announcement precedes

abbrev pub early_frames : List FrameRecord
early_frames = engine_claim ∷ device_claim ∷ vin_third 1900000 ∷ broadcasts

abbrev pub early : Publishing
early = both (3 ∷ 5 ∷ 7 ∷ 9 ∷ []) (4 ∷ 6 ∷ 8 ∷ [])
