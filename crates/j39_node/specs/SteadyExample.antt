-- Histories of a driver that takes one frame at least in each second, and of frames that take turns.
use Rattle.std.specs.Prelude.{◌++◌, ◌∷◌}
use Rattle.j39_node.specs.Common.{[], FrameRecord, List, None, Ok, Some, ℕ}
use Rattle.j39_node.specs.History.{Call}
use Rattle.j39_node.specs.History.Call.{At}
use Rattle.j39_node.specs.History.Act.{Broadcast, Hear, Send, TakeFrame, Transfer}
use Rattle.j39_node.specs.Example.{announcement, busy_to, clear, clear_to, first_from, first_packet, first_to, last_packet, last_to, nine, other_request_from, own_claim, received_all, request_from, request_to, speed, speed_frame}
use Rattle.j39_node.specs.PromptExample.{idle}

-- a message is accepted, a broadcast and a transfer of two packets; the newest call first
abbrev pub holding : List Call
holding = At 100 (TakeFrame (Some (own_claim 100))) ∷ []

abbrev pub message_start : List Call
message_start = At 300000 (Send speed (Ok 0)) ∷ holding

abbrev pub transfer_accepted : List Call
transfer_accepted = At 300000 (Transfer 7 65226 11 nine (Ok 0)) ∷ []

abbrev pub steady_start : List Call
steady_start = transfer_accepted ++ At 300000 (Broadcast 65226 nine (Ok 0)) ∷ message_start

-- from the broadcast's announcement to its first packet; and then, till nothing is due, for 334 seconds
abbrev pub announced_start : List Call
announced_start = At 400000 (TakeFrame (Some (announcement 400000))) ∷ At 300000 (TakeFrame (Some (speed_frame 300000))) ∷ steady_start

abbrev pub between_packets : List Call
between_packets =
    At 430000 (TakeFrame (Some (first_to 430000)))
    ∷ At 420000 (Hear (clear 420000))
    ∷ At 410000 (TakeFrame (Some (request_to 410000)))
    ∷ []

abbrev pub busy : List Call
busy =
    At 610000 (TakeFrame None)
    ∷ At 600000 (TakeFrame (Some (last_packet 600000)))
    ∷ At 520000 (Hear (received_all 520000))
    ∷ At 510000 (TakeFrame (Some (last_to 510000)))
    ∷ At 500000 (TakeFrame (Some (first_packet 500000)))
    ∷ between_packets
    ++ At 400000 (TakeFrame (Some (announcement 400000)))
    ∷ At 300000 (TakeFrame (Some (speed_frame 300000)))
    ∷ []

abbrev pub steady_example : List Call
steady_example = idle 610000 334 ++ busy

-- ---- turns

-- address 11 asks all for their claims
abbrev pub claims_asked : ℕ → FrameRecord
claims_asked now = record { stamp = now; id = 418053899; bytes = 0 ∷ 238 ∷ 0 ∷ [] }

-- two requests to send are heard while a message waits: their answers wait; then claims are asked for before each frame that is taken
abbrev pub asked_start : List Call
asked_start =
    At 300000 (Hear (other_request_from 300000))
    ∷ At 300000 (Hear (request_from 300000))
    ∷ message_start

abbrev pub two_claims : List Call
two_claims =
    At 300006 (TakeFrame (Some (own_claim 300006)))
    ∷ At 300005 (Hear (claims_asked 300005))
    ∷ At 300004 (TakeFrame (Some (own_claim 300004)))
    ∷ At 300003 (Hear (claims_asked 300003))
    ∷ At 300002 (TakeFrame (Some (speed_frame 300002)))
    ∷ At 300001 (TakeFrame (Some (clear_to 300001)))
    ∷ asked_start

abbrev pub turns_example : List Call
turns_example = At 300008 (TakeFrame (Some (busy_to 300008))) ∷ At 300007 (Hear (claims_asked 300007)) ∷ two_claims

-- ---- what is sent whole

-- behind a request to send of address 11: its clear, a request of address 12, and the first packet
abbrev pub brought : List Call
brought =
    At 300003 (Hear (first_from 300003))
    ∷ At 300002 (Hear (other_request_from 300002))
    ∷ At 300001 (TakeFrame (Some (clear_to 300001)))
    ∷ []

abbrev pub brought_start : List Call
brought_start = At 300000 (Hear (request_from 300000)) ∷ holding
