-- Histories of drivers that are prompt.
use Rattle.std.specs.Prelude.{◌*◌, ◌++◌, ◌+◌, ◌∷◌}
use Rattle.j39_node.specs.Common.{[], FrameRecord, List, None, Ok, Some, suc, zero, ℕ}
use Rattle.j39_node.specs.History.{Call, Who}
use Rattle.j39_node.specs.History.Call.{At}
use Rattle.j39_node.specs.History.Act.{Broadcast, Hear, Send, TakeFrame, Transfer}
use Rattle.j39_node.specs.Example.{announcement, clear, first_packet, first_to, last_packet, last_to, nine, own_claim, received_all, request_to, speed, speed_frame, two}

-- ---- by 100 ms

-- a broadcast of two packets is accepted, and a message; the newest call first
abbrev pub prompt_start : List Call
prompt_start = At 300000 (Broadcast 65226 nine (Ok 0)) ∷ At 100 (TakeFrame (Some (own_claim 100))) ∷ []

-- then frames are taken until there is none, each 100 ms at least
abbrev pub prompt_example : List Call
prompt_example =
    At 760000 (TakeFrame None)
    ∷ At 700000 (TakeFrame None)
    ∷ At 600000 (TakeFrame None)
    ∷ At 500000 (TakeFrame None)
    ∷ At 410000 (TakeFrame None)
    ∷ At 410000 (TakeFrame (Some (last_packet 410000)))
    ∷ At 390000 (TakeFrame None)
    ∷ At 350001 (TakeFrame None)
    ∷ At 350001 (TakeFrame (Some (first_packet 350001)))
    ∷ At 301000 (TakeFrame None)
    ∷ At 300000 (TakeFrame (Some (announcement 300000)))
    ∷ At 300000 (TakeFrame (Some (speed_frame 300000)))
    ∷ At 300000 (Send speed (Ok 0))
    ∷ []

-- ---- by a second

-- a transfer of two packets is accepted
abbrev pub transfer_start : List Call
transfer_start = At 300000 (Transfer 7 65226 11 nine (Ok 0)) ∷ At 100 (TakeFrame (Some (own_claim 100))) ∷ []

-- so many takes that answer none, each a second after the one before
abbrev pub idle : ℕ → ℕ → List Call
idle start zero = []
idle start (suc n) = At (start + suc n * 1000000) (TakeFrame None) ∷ idle start n

-- its request to send is taken and cleared, its packets are taken, and it is acknowledged; then nothing is taken for 152 seconds
abbrev pub transfer_example : List Call
transfer_example =
    idle 300004 152
    ++ At 300004 (TakeFrame None)
    ∷ At 300004 (Hear (received_all 300004))
    ∷ At 300003 (TakeFrame None)
    ∷ At 300003 (TakeFrame (Some (last_to 300003)))
    ∷ At 300002 (TakeFrame (Some (first_to 300002)))
    ∷ At 300001 (Hear (clear 300001))
    ∷ At 300000 (TakeFrame None)
    ∷ At 300000 (TakeFrame (Some (request_to 300000)))
    ∷ []

-- ---- two transfers at once

abbrev pub roomy : Who
roomy = record two { transfers = 2 }

-- the request to send of the other one, to address 12
abbrev pub other_request_to : ℕ → FrameRecord
other_request_to now = record (request_to now) { id = 485231744 }

-- another is accepted, to address 12, and both requests to send are taken
abbrev pub both_transfers : List Call
both_transfers =
    At 300001 (TakeFrame (Some (other_request_to 300001)))
    ∷ At 300000 (TakeFrame (Some (request_to 300000)))
    ∷ At 300000 (Transfer 7 65226 12 nine (Ok 1))
    ∷ transfer_start
