-- A history that a controller can have had.
use Rattle.std.specs.Prelude.{◌+◌, ◌∷◌}
use Rattle.j39_node.specs.Common.{[], Err, false, FrameRecord, List, None, Ok, Some, true, ℕ}
use Rattle.j39_node.specs.declared.kinds.Ending.TheVariants.{Done, Withdrawn}
use Rattle.j39_transfers.specs.declared.kinds.Ending.TheVariants as transfer
use Rattle.j39_node.specs.declared.kinds.Answer.TheVariants.{Ack}
use Rattle.j39_node.specs.declared.kinds.News.TheVariants.{MessagesMissed}
use Rattle.j39_node.specs.declared.kinds.Refused.TheVariants.{NoAddress, BadValue, Full}
use Rattle.j39_node.specs.History.{Who, Asked, Draft, Call, message_of, nothing}
use Rattle.j39_node.specs.History.Call.{At, TakeBroadcastEnded, TakeRequest, TakeEnded, TakeNews, TakeReceived, ReleaseBroadcast, ReleaseTransfer, TakeTransferEnded}
use Rattle.j39_node.specs.History.Act.{Acknowledge, Broadcast, Hear, Tick, TakeFrame, Send, Transfer}

-- NAME 2 at address 128, whose program serves group 65259 and subscribes 0 and 65226
abbrev pub two : Who
two = record { name = 2; address = 128; delay = 10; served = 65259 ∷ []; subscribed = Some (0 ∷ 65226 ∷ []); boxes = 1; sessions = 1; transfers = 1; window = 0; brought = nothing }

-- its claim, and 'cannot claim'
abbrev pub own_claim : ℕ → FrameRecord
own_claim now = record { stamp = now; id = 418316160; bytes = 2 ∷ 0 ∷ 0 ∷ 0 ∷ 0 ∷ 0 ∷ 0 ∷ 0 ∷ [] }

abbrev pub cannot_claim : ℕ → FrameRecord
cannot_claim now = record { stamp = now; id = 418316286; bytes = 2 ∷ 0 ∷ 0 ∷ 0 ∷ 0 ∷ 0 ∷ 0 ∷ 0 ∷ [] }

-- NAME 1 claims address 128
abbrev pub smaller_claim : ℕ → FrameRecord
smaller_claim now = record { stamp = now; id = 418316160; bytes = 1 ∷ 0 ∷ 0 ∷ 0 ∷ 0 ∷ 0 ∷ 0 ∷ 0 ∷ [] }

-- a message of group 65265 to all, and its frame
abbrev pub speed : Draft
speed = record { priority = 6; group = 65265; to = 255; bytes = 7 ∷ [] }

abbrev pub speed_frame : ℕ → FrameRecord
speed_frame now = record { stamp = now; id = 419361152; bytes = 7 ∷ [] }

-- address 11 sends it a message of group 0
abbrev pub torque : ℕ → FrameRecord
torque now = record { stamp = now; id = 201359371; bytes = 1 ∷ 2 ∷ [] }

-- address 11 asks it for this group, and for 65260
abbrev pub request : ℕ → FrameRecord
request now = record { stamp = now; id = 418021387; bytes = 235 ∷ 254 ∷ 0 ∷ [] }

abbrev pub other_request : ℕ → FrameRecord
other_request now = record { stamp = now; id = 418021387; bytes = 236 ∷ 254 ∷ 0 ∷ [] }

abbrev pub request_in : Asked
request_in = record { source = 11; destination = 128; group = 65259 }

-- it acknowledges the first, and refuses the second
abbrev pub answer_frame : ℕ → FrameRecord
answer_frame now = record { stamp = now; id = 417922944; bytes = 0 ∷ 255 ∷ 255 ∷ 255 ∷ 11 ∷ 235 ∷ 254 ∷ 0 ∷ [] }

abbrev pub refusal_frame : ℕ → FrameRecord
refusal_frame now = record { stamp = now; id = 417922944; bytes = 1 ∷ 255 ∷ 255 ∷ 255 ∷ 11 ∷ 236 ∷ 254 ∷ 0 ∷ [] }

-- a message of nine bytes, its announcement, and its packets
abbrev pub nine : List ℕ
nine = 1 ∷ 2 ∷ 3 ∷ 4 ∷ 5 ∷ 6 ∷ 7 ∷ 8 ∷ 9 ∷ []

abbrev pub announcement : ℕ → FrameRecord
announcement now = record { stamp = now; id = 485293952; bytes = 32 ∷ 9 ∷ 0 ∷ 2 ∷ 255 ∷ 202 ∷ 254 ∷ 0 ∷ [] }

abbrev pub first_packet : ℕ → FrameRecord
first_packet now = record { stamp = now; id = 485228416; bytes = 1 ∷ 1 ∷ 2 ∷ 3 ∷ 4 ∷ 5 ∷ 6 ∷ 7 ∷ [] }

abbrev pub last_packet : ℕ → FrameRecord
last_packet now = record { stamp = now; id = 485228416; bytes = 2 ∷ 8 ∷ 9 ∷ 255 ∷ 255 ∷ 255 ∷ 255 ∷ 255 ∷ [] }

-- its request to send them to address 11, and the packets; what 11 answers: clear to send both, and the acknowledgment
abbrev pub request_to : ℕ → FrameRecord
request_to now = record { stamp = now; id = 485231488; bytes = 16 ∷ 9 ∷ 0 ∷ 2 ∷ 255 ∷ 202 ∷ 254 ∷ 0 ∷ [] }

abbrev pub first_to : ℕ → FrameRecord
first_to now = record { stamp = now; id = 485165952; bytes = 1 ∷ 1 ∷ 2 ∷ 3 ∷ 4 ∷ 5 ∷ 6 ∷ 7 ∷ [] }

abbrev pub last_to : ℕ → FrameRecord
last_to now = record { stamp = now; id = 485165952; bytes = 2 ∷ 8 ∷ 9 ∷ 255 ∷ 255 ∷ 255 ∷ 255 ∷ 255 ∷ [] }

abbrev pub clear : ℕ → FrameRecord
clear now = record { stamp = now; id = 485261323; bytes = 17 ∷ 2 ∷ 1 ∷ 255 ∷ 255 ∷ 202 ∷ 254 ∷ 0 ∷ [] }

abbrev pub received_all : ℕ → FrameRecord
received_all now = record { stamp = now; id = 485261323; bytes = 19 ∷ 9 ∷ 0 ∷ 2 ∷ 255 ∷ 202 ∷ 254 ∷ 0 ∷ [] }

-- address 11 requests to send them to it, and sends the packets; what it answers: clear to send both, and the acknowledgment; and to
-- address 12, which requests the same meanwhile, that it has no room
abbrev pub request_from : ℕ → FrameRecord
request_from now = record { stamp = now; id = 485261323; bytes = 16 ∷ 9 ∷ 0 ∷ 2 ∷ 255 ∷ 202 ∷ 254 ∷ 0 ∷ [] }

abbrev pub other_request_from : ℕ → FrameRecord
other_request_from now = record { stamp = now; id = 485261324; bytes = 16 ∷ 9 ∷ 0 ∷ 2 ∷ 255 ∷ 202 ∷ 254 ∷ 0 ∷ [] }

abbrev pub first_from : ℕ → FrameRecord
first_from now = record { stamp = now; id = 485195787; bytes = 1 ∷ 1 ∷ 2 ∷ 3 ∷ 4 ∷ 5 ∷ 6 ∷ 7 ∷ [] }

abbrev pub last_from : ℕ → FrameRecord
last_from now = record { stamp = now; id = 485195787; bytes = 2 ∷ 8 ∷ 9 ∷ 255 ∷ 255 ∷ 255 ∷ 255 ∷ 255 ∷ [] }

abbrev pub clear_to : ℕ → FrameRecord
clear_to now = record { stamp = now; id = 485231488; bytes = 17 ∷ 2 ∷ 1 ∷ 255 ∷ 255 ∷ 202 ∷ 254 ∷ 0 ∷ [] }

abbrev pub busy_to : ℕ → FrameRecord
busy_to now = record { stamp = now; id = 485231744; bytes = 255 ∷ 2 ∷ 255 ∷ 255 ∷ 255 ∷ 202 ∷ 254 ∷ 0 ∷ [] }

abbrev pub has_all : ℕ → FrameRecord
has_all now = record { stamp = now; id = 485231488; bytes = 19 ∷ 9 ∷ 0 ∷ 2 ∷ 255 ∷ 202 ∷ 254 ∷ 0 ∷ [] }

-- address 11 broadcasts them, and address 12 announces the same meanwhile
abbrev pub announced_by : ℕ → ℕ → FrameRecord
announced_by source now = record { stamp = now; id = 485293824 + source; bytes = 32 ∷ 9 ∷ 0 ∷ 2 ∷ 255 ∷ 202 ∷ 254 ∷ 0 ∷ [] }

abbrev pub first_to_all : ℕ → FrameRecord
first_to_all now = record { stamp = now; id = 485228299; bytes = 1 ∷ 1 ∷ 2 ∷ 3 ∷ 4 ∷ 5 ∷ 6 ∷ 7 ∷ [] }

abbrev pub last_to_all : ℕ → FrameRecord
last_to_all now = record { stamp = now; id = 485228299; bytes = 2 ∷ 8 ∷ 9 ∷ 255 ∷ 255 ∷ 255 ∷ 255 ∷ 255 ∷ [] }

-- it claims its address, hears a broadcast in packets and misses another, and holds the address 250 ms later; sends a message,
-- refuses one to itself, gets one in packets and one of one frame, answers a request and refuses another; broadcasts a message in
-- packets, and sends it to an address; then a smaller NAME claims the address, so that a message and a broadcast that wait are
-- withdrawn and none is accepted; the newest call first
abbrev pub example : List Call
example =
    At 400004 (Send speed (Err NoAddress))
    ∷ TakeBroadcastEnded (Some (1, Withdrawn))
    ∷ TakeEnded None
    ∷ TakeEnded (Some (1, Withdrawn))
    ∷ At 400003 (TakeFrame None)
    ∷ At 406001 (TakeFrame (Some (cannot_claim 406001)))
    ∷ At 400001 (Hear (smaller_claim 400001))
    ∷ At 400000 (Broadcast 65226 nine (Ok 1))
    ∷ At 400000 (Send speed (Ok 1))
    ∷ TakeTransferEnded (Some (0, transfer.Done))
    ∷ At 399003 (Hear (received_all 399003))
    ∷ At 399002 (TakeFrame (Some (last_to 399002)))
    ∷ At 399001 (TakeFrame (Some (first_to 399001)))
    ∷ At 399000 (Hear (clear 399000))
    ∷ TakeTransferEnded None
    ∷ At 398002 (Transfer 7 65226 11 nine (Err Full))
    ∷ At 398001 (TakeFrame (Some (request_to 398001)))
    ∷ At 398000 (Transfer 7 65226 11 nine (Ok 0))
    ∷ At 398000 (Transfer 7 65226 128 nine (Err BadValue))
    ∷ TakeBroadcastEnded (Some (0, Done))
    ∷ At 396000 (TakeFrame (Some (last_packet 396000)))
    ∷ At 346000 (TakeFrame (Some (first_packet 346000)))
    ∷ At 345999 (TakeFrame None)
    ∷ TakeBroadcastEnded None
    ∷ At 296001 (Broadcast 65226 nine (Err Full))
    ∷ At 296000 (TakeFrame (Some (announcement 296000)))
    ∷ At 296000 (Broadcast 65226 nine (Ok 0))
    ∷ At 296000 (Broadcast 65226 (7 ∷ []) (Err BadValue))
    ∷ At 295003 (TakeFrame (Some (answer_frame 295003)))
    ∷ At 295002 (Acknowledge request_in Ack (Ok tt))
    ∷ TakeRequest None
    ∷ TakeRequest (Some request_in)
    ∷ At 295001 (TakeFrame (Some (refusal_frame 295001)))
    ∷ At 295000 (Hear (other_request 295000))
    ∷ At 295000 (Hear (request 295000))
    ∷ TakeReceived None
    ∷ TakeReceived (Some (290000, message_of (torque 290000)))
    ∷ At 290000 (Hear (torque 290000))
    ∷ ReleaseTransfer false
    ∷ ReleaseTransfer true
    ∷ At 270007 (TakeFrame (Some (has_all 270007)))
    ∷ At 270006 (Hear (last_from 270006))
    ∷ At 270005 (Hear (first_from 270005))
    ∷ At 270004 (TakeFrame None)
    ∷ At 270003 (TakeFrame (Some (busy_to 270003)))
    ∷ At 270002 (TakeFrame (Some (clear_to 270002)))
    ∷ At 270001 (Hear (other_request_from 270001))
    ∷ At 270000 (Hear (request_from 270000))
    ∷ TakeEnded (Some (0, Done))
    ∷ At 250200 (TakeFrame (Some (speed_frame 250200)))
    ∷ At 250100 (Send (record speed { to = 128 }) (Err BadValue))
    ∷ At 250100 (Send speed (Ok 0))
    ∷ At 250100 Tick
    ∷ At 250099 (Send speed (Err NoAddress))
    ∷ ReleaseBroadcast false
    ∷ ReleaseBroadcast true
    ∷ TakeNews None
    ∷ TakeNews (Some MessagesMissed)
    ∷ At 130 (Hear (last_to_all 130))
    ∷ At 120 (Hear (first_to_all 120))
    ∷ At 115 (Hear (announced_by 12 115))
    ∷ At 110 (Hear (announced_by 11 110))
    ∷ At 100 (TakeFrame (Some (own_claim 100)))
    ∷ At 90 Tick
    ∷ []

-- the same with two boxes: each of two sources has a broadcast open, and both are whole
abbrev pub wide : Who
wide = record two { boxes = 2 }

abbrev pub two_open : List Call
two_open = At 115 (Hear (announced_by 12 115)) ∷ At 110 (Hear (announced_by 11 110)) ∷ []
