-- Two controllers on one bus.
use Rattle.std.specs.Prelude.{◌∷◌, [], List, None, Ok, Some, true, ℕ}
use Rattle.j39_frame.specs.Frame.{FrameRecord}
use Rattle.j39_node.specs.Example.{announcement, clear, first_packet, first_to, last_packet, last_to, nine, own_claim, received_all, request_to, speed, speed_frame, two}
use Rattle.j39_node.specs.History.{message_of}
use Rattle.j39_node.specs.History.Call.{At, ReleaseBroadcast, TakeBroadcastEnded, TakeReceived, TakeTransferEnded}
use Rattle.j39_node.specs.History.Act.{Broadcast, Hear, Send, TakeFrame, Transfer}
use Rattle.j39_node.specs.declared.kinds.Ending.TheVariants as ending
use Rattle.j39_transfers.specs.declared.kinds.Ending.TheVariants.{Done}
use Rattle.j39_net.specs.Net.{Member, Passed}

-- NAME 3 claims address 128
abbrev pub larger_claim : ℕ → FrameRecord
larger_claim now = record { stamp = now; id = 418316160; bytes = 3 ∷ 0 ∷ 0 ∷ 0 ∷ 0 ∷ 0 ∷ 0 ∷ 0 ∷ [] }

-- NAME 2 claims address 128, claims it again when NAME 3 does, and sends a message, and one in packets;
-- its driver comes each 100 ms at least
abbrev pub first : Member
first = record {
  who = two;
  since = 0;
  history =
      TakeBroadcastEnded (Some (0, ending.Done))
      ∷ At 403100 (TakeFrame (Some (last_packet 403100)))
      ∷ At 353100 (TakeFrame (Some (first_packet 353100)))
      ∷ At 303100 (TakeFrame (Some (announcement 303100)))
      ∷ At 303000 (Broadcast 65226 nine (Ok 0))
      ∷ At 302200 (TakeFrame (Some (speed_frame 302200)))
      ∷ At 302100 (Send speed (Ok 0))
      ∷ At 300700 (TakeFrame (Some (own_claim 300700)))
      ∷ At 300500 (Hear (larger_claim 300300))
      ∷ At 300000 (TakeFrame None)
      ∷ At 200000 (TakeFrame None)
      ∷ At 100050 (TakeFrame None)
      ∷ At 100 (TakeFrame (Some (own_claim 100)))
      ∷ [];
}

-- NAME 3 comes after 300 ms, claims it and is driven away, and gets the messages
abbrev pub second : Member
second = record {
  who = record two { name = 3; subscribed = None };
  since = 300000;
  history =
      ReleaseBroadcast true
      ∷ At 403400 (Hear (last_packet 403300))
      ∷ At 353400 (Hear (first_packet 353300))
      ∷ At 303400 (Hear (announcement 303300))
      ∷ TakeReceived (Some (302300, message_of (speed_frame 302300)))
      ∷ At 302400 (Hear (speed_frame 302300))
      ∷ At 300900 (Hear (own_claim 300800))
      ∷ At 300100 (TakeFrame (Some (larger_claim 300100)))
      ∷ [];
}

abbrev pub both : List Member
both = first ∷ second ∷ []

-- the log of their bus
abbrev pub passed : List Passed
passed =
    record { frame = own_claim 200; by = Some 0 }
    ∷ record { frame = larger_claim 300300; by = Some 1 }
    ∷ record { frame = own_claim 300800; by = Some 0 }
    ∷ record { frame = speed_frame 302300; by = Some 0 }
    ∷ record { frame = announcement 303300; by = Some 0 }
    ∷ record { frame = first_packet 353300; by = Some 0 }
    ∷ record { frame = last_packet 403300; by = Some 0 }
    ∷ []

-- ---- a transfer

-- NAME 3 claims address 11
abbrev pub claim_of_eleven : ℕ → FrameRecord
claim_of_eleven now = record { stamp = now; id = 418316043; bytes = 3 ∷ 0 ∷ 0 ∷ 0 ∷ 0 ∷ 0 ∷ 0 ∷ 0 ∷ [] }

-- NAME 2 sends nine bytes to address 11, and is told that this is done
abbrev pub sender : Member
sender = record {
  who = two;
  since = 0;
  history =
      TakeTransferEnded (Some (0, Done))
      ∷ At 303400 (Hear (received_all 303300))
      ∷ At 302400 (TakeFrame (Some (last_to 302400)))
      ∷ At 302300 (TakeFrame (Some (first_to 302300)))
      ∷ At 302200 (Hear (clear 302100))
      ∷ At 301000 (TakeFrame (Some (request_to 301000)))
      ∷ At 301000 (Transfer 7 65226 11 nine (Ok 0))
      ∷ At 100 (TakeFrame (Some (own_claim 100)))
      ∷ [];
}

-- NAME 3 receives them; both claims are lost
abbrev pub receiver : Member
receiver = record {
  who = record two { name = 3; address = 11 };
  since = 0;
  history =
      At 303200 (TakeFrame (Some (received_all 303200)))
      ∷ At 302600 (Hear (last_to 302500))
      ∷ At 302500 (Hear (first_to 302400))
      ∷ At 302000 (TakeFrame (Some (clear 302000)))
      ∷ At 301200 (Hear (request_to 301100))
      ∷ At 100 (TakeFrame (Some (claim_of_eleven 100)))
      ∷ [];
}

abbrev pub pair : List Member
pair = sender ∷ receiver ∷ []

abbrev pub transferred : List Passed
transferred =
    record { frame = request_to 301100; by = Some 0 }
    ∷ record { frame = clear 302100; by = Some 1 }
    ∷ record { frame = first_to 302400; by = Some 0 }
    ∷ record { frame = last_to 302500; by = Some 0 }
    ∷ record { frame = received_all 303300; by = Some 1 }
    ∷ []
