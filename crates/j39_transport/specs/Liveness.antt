-- Directed transfers come to an end: on a bus that loses nothing, and where nothing more is heard.
use Rattle.std.specs.Prelude.{◌≡◌, ◌≤◌, ◌<◌, ℕ, ◌+◌, ◌*◌, Bool, false, true, List, [], ◌∷◌, length, map, Option, Some, None, IsSome}
use Rattle.j39_frame.specs.Address.{IsAddress}
use Rattle.j39_frame.specs.Frame.{FrameRecord}
use Rattle.j39_transport.specs.Key.{Key}
use Rattle.j39_transport.specs.Key as key
use Rattle.j39_transport.specs.Message.{MessageRecord, IsLong, packets_of}
use Rattle.j39_transport.specs.Net.{World, NetEvent, SenderTick, ReceiverTick, Next, Third, is_over, is_busy_with, run, of_source, IsFrom, IsThird}
use Rattle.j39_transport.specs.Receiving.{ReceiverRecord, RecvEvent, recv_step, new_receiver}
use Rattle.j39_transport.specs.Receiving as receiver
use Rattle.j39_transport.specs.Reception.{ReceptionRecord, quiet, takes_signal, takes_tick}
use Rattle.j39_transport.specs.Sending.{SenderRecord, SendEvent, Done, Failed, is_waiting, silent, send_step, new_sender}
use Rattle.j39_transport.specs.Sending as sender
use Rattle.j39_transport.specs.Signals.{Signal, ClearToSend, Abort, Packet, said_between}

-- ---- nothing is lost

-- how often the sender is ticked
abbrev pub sender_ticks : List NetEvent → ℕ
sender_ticks [] = 0
sender_ticks (SenderTick now is_lost answer_lost found ∷ es) = sender_ticks es + 1
sender_ticks (ReceiverTick now is_lost ∷ es) = sender_ticks es
sender_ticks (Next m ∷ es) = sender_ticks es
sender_ticks (Third f now a b c d ∷ es) = sender_ticks es

-- after a tick of the sender at the moment last: no frame of the sender is lost and no answer to one, a tick of the
-- receiver is at most 750 ms (T1) after the last one of the sender, and thirds send what they like
abbrev pub IsPrompt : ℕ → ℕ → ℕ → List NetEvent → Type 0
IsPrompt source to last [] = Unit {0}
IsPrompt source to last (SenderTick now is_lost answer_lost found ∷ es) =
    (is_lost ≡ false) × (answer_lost ≡ false) × IsPrompt source to now es
IsPrompt source to last (ReceiverTick now is_lost ∷ es) = (now ≤ last + 750000) × IsPrompt source to last es
IsPrompt source to last (Next m ∷ es) = ⊥
IsPrompt source to last (Third f now a b c d ∷ es) = IsThird source to f × IsPrompt source to last es

-- the sender is done, and of its source the receiver has delivered m and no more since, and has no session
pub record HasCompleted (source : ℕ) (m : MessageRecord) (old new : World) : Type 0 where
  pub done : new.sender.state ≡ Done
  pub delivered : of_source source new.delivered ≡ m ∷ of_source source old.delivered
  pub free : is_busy_with source new.receiver.session ≡ false

-- a new sender of a message, and a receiver with no session: after as many ticks of the sender as the message has
-- packets, and one more before those
abbrev pub CompletesLaw : Type 0
CompletesLaw = (source to : ℕ) → IsAddress source → IsAddress to → (m : MessageRecord) → IsFrom source m
    → (w : World) → w.sender ≡ new_sender m to → w.receiver ≡ new_receiver to
    → (now : ℕ) (es : List NetEvent) → IsPrompt source to now es → packets_of m ≤ sender_ticks es
    → HasCompleted source m w (run (SenderTick now false false true ∷ es) w)

-- ---- nothing more is heard

-- each moment is more than 1,250 ms after the one before (T2 and T3; T1 and T4 are shorter), the first after this one
abbrev pub AreFar : ℕ → List ℕ → Type 0
AreFar moment [] = Unit {0}
AreFar moment (now ∷ later) = (moment + 1250000 < now) × AreFar now later

-- a sender after these events at these moments, and ticked at these
unfoldable pub has_sent : List (SendEvent × ℕ) → SenderRecord → SenderRecord
has_sent [] s = s
has_sent (e ∷ es) s = has_sent es (send_step s e.0 e.1).after

abbrev pub ticked_sender : List ℕ → SenderRecord → SenderRecord
ticked_sender moments s = has_sent (map (λ now. (sender.Tick, now)) moments) s

-- a receiver after these events, where there was memory for an RTS or not, and ticked
unfoldable pub has_received : List (RecvEvent × ℕ × Bool) → ReceiverRecord → ReceiverRecord
has_received [] r = r
has_received (e ∷ es) r = has_received es (recv_step r e.0 e.1 e.2).after

abbrev pub ticked_receiver : List ℕ → ReceiverRecord → ReceiverRecord
ticked_receiver moments r = has_received (map (λ now. (receiver.Tick, now, true)) moments) r

-- when a session was last heard or said something
abbrev pub time_of : Option ReceptionRecord → ℕ
time_of None = 0
time_of (Some r) = r.message.last

-- whatever came before, a sender is done or has failed after as many ticks as its message has packets, and one more
abbrev pub SenderRestsLaw : Type 0
SenderRestsLaw = (m : MessageRecord) (to : ℕ) → IsLong m → (es : List (SendEvent × ℕ)) (moments : List ℕ)
    → AreFar (has_sent es (new_sender m to)).since moments → packets_of m + 1 ≤ length moments
    → is_over (ticked_sender moments (has_sent es (new_sender m to))).state ≡ true

-- and a receiver has no session after three
abbrev pub ReceiverRestsLaw : Type 0
ReceiverRestsLaw = (own : ℕ) (es : List (RecvEvent × ℕ × Bool)) (moments : List ℕ)
    → AreFar (time_of (has_received es (new_receiver own)).session) moments → 3 ≤ length moments
    → (ticked_receiver moments (has_received es (new_receiver own))).session ≡ None

-- neither number is too large: after some events a sender lasts as many ticks as its message has packets
abbrev pub SenderLastsLaw : Type 0
SenderLastsLaw = (m : MessageRecord) (to : ℕ) → IsLong m → IsAddress to
    → (moments : List ℕ) → length moments ≡ packets_of m
    → (es : List (SendEvent × ℕ)) × (is_over (ticked_sender moments (has_sent es (new_sender m to))).state ≡ false)

-- and a session two
abbrev pub ReceiverLastsLaw : Type 0
ReceiverLastsLaw = (own : ℕ) → IsAddress own → (moments : List ℕ) → length moments ≡ 2
    → (es : List (RecvEvent × ℕ × Bool)) × IsSome (ticked_receiver moments (has_received es (new_receiver own))).session

-- ---- in a loop that ticks often

-- moments in order, each at most so long after the one before, the first after this one
abbrev pub AreWithin : ℕ → ℕ → List ℕ → Type 0
AreWithin gap moment [] = Unit {0}
AreWithin gap moment (now ∷ later) = (moment ≤ now) × (now ≤ moment + gap) × AreWithin gap now later

-- the last of the moments, or this one
abbrev pub last_of : ℕ → List ℕ → ℕ
last_of moment [] = moment
last_of moment (now ∷ later) = last_of now later

-- a sender is over 1,250 ms and a tick for each packet, and one more, after a moment from which on it is ticked so
abbrev pub SenderRestsSoonLaw : Type 0
SenderRestsSoonLaw = (m : MessageRecord) (to : ℕ) → IsLong m → (es : List (SendEvent × ℕ)) (gap moment : ℕ) (moments : List ℕ)
    → (has_sent es (new_sender m to)).since ≤ moment → AreWithin gap moment moments
    → moment + 1250000 + (packets_of m + 1) * gap < last_of moment moments
    → is_over (ticked_sender moments (has_sent es (new_sender m to))).state ≡ true

-- and a receiver has no session three times 1,250 ms and a tick after it last heard or said something
abbrev pub ReceiverRestsSoonLaw : Type 0
ReceiverRestsSoonLaw = (own : ℕ) (es : List (RecvEvent × ℕ × Bool)) (gap : ℕ) (moments : List ℕ)
    → AreWithin gap (time_of (has_received es (new_receiver own)).session) moments
    → time_of (has_received es (new_receiver own)).session + 3 * (1250000 + gap)
    < last_of (time_of (has_received es (new_receiver own)).session) moments
    → (ticked_receiver moments (has_received es (new_receiver own))).session ≡ None

-- ---- how long each waits

-- up to so long after this moment a tick changes nothing and nothing is said; after that the sender fails for reason 3,
-- and aborts
pub record SenderWaits (limit since : ℕ) (s : SenderRecord) : Type 0 where
  pub waits : (now : ℕ) → now ≤ since + limit → send_step s sender.Tick now ≡ silent s
  pub fails : (now : ℕ) → since + limit < now
      → send_step s sender.Tick now
      ≡ record { after = record s { state = Failed 3 }; says = Some (Abort 3 s.message.pgn) }

-- a tick that sends, and after which it waits: it sent an RTS or the last granted packet; it waits 1,250 ms (T3). A CTS
-- of no packets while it waits: 1,050 ms (T4)
pub record IsSenderTimed (s : SenderRecord) (now : ℕ) : Type 0 where
  pub sent : IsSome (send_step s sender.Tick now).says → is_waiting (send_step s sender.Tick now).after.state ≡ true
      → SenderWaits 1250000 now (send_step s sender.Tick now).after
  pub held : (f : FrameRecord) (next : ℕ) → is_waiting s.state ≡ true
      → said_between s.destination s.message.source f ≡ Some (ClearToSend 0 next s.message.pgn)
      → SenderWaits 1050000 now (send_step s (sender.Heard f) now).after

abbrev pub SenderWaitsLaw : Type 0
SenderWaitsLaw = (s : SenderRecord) (now : ℕ) → IsSenderTimed s now

-- up to so long after this moment a tick changes nothing and nothing is said; after that something is: a CTS again, or
-- an abort
pub record ReceiverWaits (limit since : ℕ) (o : Option ReceptionRecord) : Type 0 where
  pub waits : (now : ℕ) → now ≤ since + limit → takes_tick now o ≡ quiet o
  pub asks : (now : ℕ) → since + limit < now → IsSome (takes_tick now o).says

-- after a CTS, first or again, 1,250 ms (T2); after a packet of the session that isn't answered, 750 ms (T1)
pub record IsReceiverTimed (k : Key) (now : ℕ) (found : Bool) (o : Option ReceptionRecord) : Type 0 where
  pub granted : (a : Option Signal) (count next pgn : ℕ)
      → (takes_signal k a now found o).says ≡ Some (ClearToSend count next pgn)
      → ReceiverWaits 1250000 now (takes_signal k a now found o).session
  pub asked : (count next pgn : ℕ) → (takes_tick now o).says ≡ Some (ClearToSend count next pgn)
      → ReceiverWaits 1250000 now (takes_tick now o).session
  pub packed : (number : ℕ) (part : List ℕ) → is_busy_with (key.sender k) o ≡ true
      → (takes_signal k (Some (Packet number part)) now found o).says ≡ None
      → ReceiverWaits 750000 now (takes_signal k (Some (Packet number part)) now found o).session

abbrev pub ReceiverWaitsLaw : Type 0
ReceiverWaitsLaw = (k : Key) (now : ℕ) (found : Bool) (o : Option ReceptionRecord) → IsReceiverTimed k now found o
