-- The sender of a directed transfer: its states, and what it does at each event (J1939-21, 5.10.2.4 and 5.10.3).
use Rattle.std.specs.Prelude.{◌≡◌, ◌≤◌, ◌⊎◌, ℕ, ◌+◌, ◌-◌, min, max, length, nat_lt, nat_le, ◌==◌, Bool, true, false, ◌&&◌, if◌then◌else◌, Option, Some, None}
use Rattle.std.specs.Option.{option_map}
use Rattle.j39_frame.specs.Frame.{FrameRecord}
use Rattle.j39_transport.specs.Key.{Directed}
use Rattle.j39_transport.specs.Message.{MessageRecord, packets_of}
use Rattle.j39_transport.specs.Cutting.{ToSend, packet_data, cut_frame}
use Rattle.j39_transport.specs.Protocol.{no_limit, timeout, timer_t3, timer_t4}
use Rattle.j39_transport.specs.Signals.{Signal, BroadcastAnnounce, RequestToSend, ClearToSend, Acknowledgment, Abort, Packet, said_between, written}

-- nothing was sent; it waits, so long at most; packets from next to last are to be sent; acknowledged; aborted
pub data SendState : Type 0 where
  Idle : SendState
  Waiting : (limit : ℕ) → SendState
  Sending : (next last : ℕ) → SendState
  Done : SendState
  Failed : (reason : ℕ) → SendState

abbrev pub is_idle : SendState → Bool
is_idle Idle = true
is_idle (Waiting limit) = false
is_idle (Sending next last) = false
is_idle Done = false
is_idle (Failed reason) = false

abbrev pub is_waiting : SendState → Bool
is_waiting Idle = false
is_waiting (Waiting limit) = true
is_waiting (Sending next last) = false
is_waiting Done = false
is_waiting (Failed reason) = false

-- the RTS was sent, and neither an acknowledgment nor an abort has come
abbrev pub is_running : SendState → Bool
is_running Idle = false
is_running (Waiting limit) = true
is_running (Sending next last) = true
is_running Done = false
is_running (Failed reason) = false

abbrev pub is_done : SendState → Bool
is_done Idle = false
is_done (Waiting limit) = false
is_done (Sending next last) = false
is_done Done = true
is_done (Failed reason) = false

-- since: when the limit was set; highest: the highest packet sent so far, 0 before any
pub record SenderRecord : Type 0 where
  pub message : MessageRecord
  pub destination : ℕ
  pub state : SendState
  pub since : ℕ
  pub highest : ℕ

unfoldable pub new_sender : MessageRecord → ℕ → SenderRecord
new_sender m destination = record { message = m; destination = destination; state = Idle; since = 0; highest = 0 }

-- the sender after an event, and what it says
pub record SendResult : Type 0 where
  pub after : SenderRecord
  pub says : Option Signal

abbrev pub silent : SenderRecord → SendResult
silent s = record { after = s; says = None }

abbrev pub waits : ℕ → ℕ → SenderRecord → SenderRecord
waits limit now s = record s { state = Waiting limit; since = now }

-- ---- a tick

-- the RTS sets no limit of packets for one CTS
abbrev pub request_of : MessageRecord → Signal
request_of m = RequestToSend (length m.bytes) (packets_of m) no_limit m.pgn

-- packet k goes out, of those granted up to last; after the last granted one the sender waits
unfoldable pub sends_packet : ℕ → ℕ → ℕ → SenderRecord → SendResult
sends_packet k last now s = record {
  after = record {
    message = s.message;
    destination = s.destination;
    state = (if k == last then Waiting timer_t3 else Sending (k + 1) last);
    since = (if k == last then now else s.since);
    highest = max s.highest k;
  };
  says = Some (Packet k (packet_data s.message.bytes k));
}

-- exactly the limit is in time, and a time that goes back counts as no time passed
unfoldable pub ticks_in : SendState → ℕ → SenderRecord → SendResult
ticks_in Idle now s = record { after = waits timer_t3 now s; says = Some (request_of s.message) }
ticks_in (Waiting limit) now s =
    if nat_lt (s.since + limit) now
    then record { after = record s { state = Failed timeout }; says = Some (Abort timeout s.message.pgn) }
    else silent s
ticks_in (Sending next last) now s = sends_packet next last now s
ticks_in Done now s = silent s
ticks_in (Failed reason) now s = silent s

-- ---- a frame

-- a CTS may name a packet of the message, at most one above the highest sent so far
abbrev pub may_name : SenderRecord → ℕ → Bool
may_name s p = nat_le 1 p && nat_le p (packets_of s.message) && nat_le p (s.highest + 1)

-- a CTS of count packets from p
unfoldable pub cleared : ℕ → ℕ → ℕ → SenderRecord → SenderRecord
cleared count p now s =
    if is_waiting s.state
    then (if count == 0 then waits timer_t4 now s
    else if may_name s p then record s { state = Sending p (min (p + count - 1) (packets_of s.message)) }
    else s)
    else s

-- an acknowledgment of the message counts once its last packet was sent
unfoldable pub acknowledged : ℕ → ℕ → SenderRecord → SenderRecord
acknowledged size packets s =
    if is_waiting s.state && size == length s.message.bytes && packets == packets_of s.message
    && s.highest == packets_of s.message
    then record s { state = Done }
    else s

unfoldable pub aborted : ℕ → SenderRecord → SenderRecord
aborted reason s = if is_running s.state then record s { state = Failed reason } else s

-- what the receiver says; only what names the message's group counts, and nothing is answered
unfoldable pub hears : Option Signal → ℕ → SenderRecord → SenderRecord
hears None now s = s
hears (Some (BroadcastAnnounce size packets pgn)) now s = s
hears (Some (RequestToSend size packets most pgn)) now s = s
hears (Some (ClearToSend count next pgn)) now s = if pgn == s.message.pgn then cleared count next now s else s
hears (Some (Acknowledgment size packets pgn)) now s = if pgn == s.message.pgn then acknowledged size packets s else s
hears (Some (Abort reason pgn)) now s = if pgn == s.message.pgn then aborted reason s else s
hears (Some (Packet number joined)) now s = s

-- ---- each event

pub data SendEvent : Type 0 where
  Tick : SendEvent
  Heard : FrameRecord → SendEvent

unfoldable pub send_step : SenderRecord → SendEvent → ℕ → SendResult
send_step s Tick now = ticks_in s.state now s
send_step s (Heard f) now = silent (hears (said_between s.destination s.message.source f) now s)

-- what it says goes from the message's source to the destination
abbrev pub sent_by : SenderRecord → Option Signal → Option ToSend
sent_by s says = option_map (written s.message.source s.destination) says

-- the sender takes the step of the event, and answers this frame
pub record SendStep (old : SenderRecord) (event : SendEvent) (now : ℕ) (answer : Option ToSend)
    (new : SenderRecord) : Type 0 where
  pub after : new ≡ (send_step old event now).after
  pub answers : answer ≡ sent_by old (send_step old event now).says

-- ---- its frames

-- what a sender may send: a frame of its message, cut for its destination, or an abort for time
abbrev pub IsOwn : SenderRecord → ToSend → Type 0
IsOwn s f =
    ((k : ℕ) × (k ≤ packets_of s.message) × (f ≡ cut_frame (Directed s.message.source s.destination) s.message k))
    ⊎ (f ≡ written s.message.source s.destination (Abort timeout s.message.pgn))
