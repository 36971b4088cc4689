-- A log in which a transfer is refused and a broadcast breaks off: what is there, and what stands in it once the packets that never
-- came are thought right behind.
use Rattle.std.specs.Prelude.{[], Bool, List, ◌==◌, ◌||◌, ◌∷◌, ℕ}
use Rattle.j39_frame.specs.Frame.{FrameRecord}
use Rattle.j39_listen.specs.NoTransferExamples.{device, device_claim, eec1_bytes, eec1_frame, eec1_item, eec1_told, parts_announced, parts_first, parts_item, parts_second}
use Rattle.j39_listen.specs.Published.{Publishing}
use Rattle.j39_listen.specs.Report.{Entry}
use Rattle.j39_listen.specs.TransferExample.{directed_first, directed_item, directed_second, directed_third, engine, engine_claim, frame, vin_requested}

-- 0B has no room for it (abort 2)
abbrev vin_refused : FrameRecord
vin_refused = frame 2080000 0x1CEC000B (255 ∷ 2 ∷ 0xFF ∷ 0xFF ∷ 0xFF ∷ 0xEC ∷ 0xFE ∷ 0 ∷ [])

abbrev requested : List FrameRecord → List FrameRecord
requested rest = engine_claim ∷ device_claim ∷ vin_requested ∷ rest

-- 0B breaks off behind the first packet
abbrev broken : List FrameRecord → List FrameRecord
broken rest = vin_refused ∷ parts_announced 3000000 ∷ parts_first 3050000 ∷ rest

abbrev told : List FrameRecord
told = eec1_frame 4000000 eec1_bytes ∷ []

abbrev pub broken_frames : List FrameRecord
broken_frames = requested (broken told)

abbrev pub thought_frames : List FrameRecord
thought_frames = requested (directed_first ∷ directed_second ∷ directed_third 2070000 ∷ broken (parts_second 3100000 ∷ told))

abbrev pub thought : Publishing
thought = record {
  publishers = engine ∷ device ∷ [];
  items = directed_item (2 ∷ 3 ∷ 4 ∷ 5 ∷ []) ∷ parts_item (7 ∷ 8 ∷ 9 ∷ []) ∷ eec1_item engine (10 ∷ []) ∷ [];
}

abbrev pub never_came : ℕ → Bool
never_came i = (i == 3 || i == 4) || (i == 5 || i == 9)

abbrev pub came_values : List Entry
came_values = eec1_told 4000000 engine
