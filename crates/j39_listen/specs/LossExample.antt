-- A log that loses a packet of a transfer, and has one of a broadcast twice: what was sent, what is left, what is heard.
use Rattle.std.specs.Prelude.{ℕ, Bool, ◌||◌, ◌==◌, List, [], ◌∷◌}
use Rattle.j39_frame.specs.Frame.{FrameRecord}
use Rattle.j39_listen.specs.TransferExample.{directed_first, directed_item, directed_second, directed_third, engine, engine_claim, three_granted, two_granted, vin_acknowledged, vin_requested, vin_sent}
use Rattle.j39_listen.specs.NoTransferExamples.{device, device_claim, parts_announced, parts_first, parts_item, parts_second, parts_values}
use Rattle.j39_listen.specs.Published.{Publishing}
use Rattle.j39_listen.specs.Report.{Entry}

-- the claims, both announcements, and the transfer's first packet
abbrev opened : List FrameRecord → List FrameRecord
opened rest =
    engine_claim ∷ device_claim ∷ vin_requested ∷ parts_announced 2005000 ∷ three_granted ∷ directed_first ∷ rest

-- the transfer's second packet, asked for, and the broadcast's first
abbrev granted : List FrameRecord → List FrameRecord
granted rest = two_granted ∷ parts_first 2055000 ∷ directed_second ∷ rest

abbrev ended : List FrameRecord
ended = vin_acknowledged ∷ parts_second 2105000 ∷ []

-- 00 sends a message to 0B, its third packet twice, while 0B broadcasts one
abbrev pub sent_frames : List FrameRecord
sent_frames = opened (directed_third 2040000 ∷ granted (directed_third 2070000 ∷ ended))

abbrev pub sent : Publishing
sent = record {
  publishers = engine ∷ device ∷ [];
  items = directed_item (2 ∷ 5 ∷ 9 ∷ 10 ∷ []) ∷ parts_item (3 ∷ 8 ∷ 12 ∷ []) ∷ [];
}

abbrev pub sent_values : List Entry
sent_values = vin_sent 2070000 ∷ parts_values 2105000

-- the third packet of the transfer, both times
abbrev pub lost : ℕ → Bool
lost i = i == 6 || i == 10

abbrev pub left_frames : List FrameRecord
left_frames = opened (granted ended)

abbrev pub left_values : List Entry
left_values = parts_values 2105000

-- with the first packet of the broadcast once more
abbrev pub heard_frames : List FrameRecord
heard_frames = opened (granted (parts_first 2065000 ∷ ended))
