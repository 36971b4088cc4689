-- A message that a receiver is receiving, and what an event does to it (J1939-21, 5.10.2.4 and 5.10.3).
use Rattle.std.specs.Prelude.{ℕ, ◌+◌, ◌-◌, min, take, nat_lt, ◌==◌, Bool, true, false, not, ◌&&◌, ◌||◌, if◌then◌else◌, List, Option, Some, None}
use Rattle.j39_transport.specs.Key.{Key, sender}
use Rattle.j39_transport.specs.Message.{MessageRecord}
use Rattle.j39_transport.specs.Protocol.{no_limit, busy, no_resources, timeout, timer_t1, timer_t2}
use Rattle.j39_transport.specs.Session.{SessionRecord, opened, touched, grown}
use Rattle.j39_transport.specs.Signals.{Signal, BroadcastAnnounce, RequestToSend, ClearToSend, Acknowledgment, Abort, Packet}

-- the message so far, whose last stamp is the time of the session; the most packets for one CTS; the last packet
-- granted; how often it asked again; and fresh: no packet has come since its last CTS
pub record ReceptionRecord : Type 0 where
  pub message : SessionRecord
  pub most : ℕ
  pub granted : ℕ
  pub asks : ℕ
  pub fresh : Bool

-- what an event does: the session after it, what is said, and the message delivered
pub record Reaction : Type 0 where
  pub session : Option ReceptionRecord
  pub says : Option Signal
  pub delivers : Option MessageRecord

abbrev pub quiet : Option ReceptionRecord → Reaction
quiet o = record { session = o; says = None; delivers = None }

abbrev pub answers : Option ReceptionRecord → Signal → Reaction
answers o a = record { session = o; says = Some a; delivers = None }

-- the most packets for one CTS, as an RTS names them: 0 sets no limit
abbrev pub most_named : ℕ → ℕ
most_named most = if most == 0 then no_limit else most

-- the session of an announced message
unfoldable pub begun : SessionRecord → ℕ → ReceptionRecord
begun x most = record { message = x; most = most_named most; granted = 0; asks = 0; fresh = true }

-- ---- granting

abbrev pub window : ReceptionRecord → ℕ
window r = min r.most (r.message.packets - r.message.count)

unfoldable pub granted_at : ℕ → ReceptionRecord → ReceptionRecord
granted_at now r = record r { message = touched now r.message; granted = r.message.count + window r; fresh = true }

-- a CTS of the next packets, from the number that comes next
unfoldable pub grants : ℕ → ReceptionRecord → Reaction
grants now r = answers (Some (granted_at now r)) (ClearToSend (window r) (r.message.count + 1) r.message.group)

-- a CTS again, at most twice for a message; in place of the third an abort, which ends the session
unfoldable pub asks_again : ℕ → ReceptionRecord → Reaction
asks_again now r =
    if r.asks == 2 then answers None (Abort timeout r.message.group)
    else grants now (record r { asks = r.asks + 1 })

-- ---- packets

-- this one is next, or the last that was granted
abbrev pub expects : ℕ → Option ReceptionRecord → Bool
expects number None = false
expects number (Some r) = number == r.message.count + 1 || number == r.granted

abbrev pub message_of : SessionRecord → MessageRecord
message_of x = record { source = x.source; pgn = x.group; bytes = take x.size x.bytes }

unfoldable pub delivers_message : SessionRecord → Reaction
delivers_message x = record {
  session = None;
  says = Some (Acknowledgment x.size x.packets x.group);
  delivers =
      Some (message_of x);
}

-- the packet that comes next was appended
unfoldable pub goes_on : ℕ → ReceptionRecord → Reaction
goes_on now r =
    if r.message.count == r.message.packets then delivers_message r.message
    else if r.message.count == r.granted then grants now r
    else quiet (Some r)

-- a packet of the session's source
unfoldable pub takes_packet : ℕ → List ℕ → ℕ → ReceptionRecord → Reaction
takes_packet number part now r =
    if number == r.message.count + 1 then goes_on now (record r { message = grown now part r.message; fresh = false })
    else if number == r.granted then asks_again now r
    else quiet (Some (record r { message = touched now r.message; fresh = false }))

-- ---- what a source says, by the session that is open or none

abbrev pub is_from : ℕ → ReceptionRecord → Bool
is_from source r = source == r.message.source

-- the session of another source is open
abbrev pub is_taken : ℕ → Option ReceptionRecord → Bool
is_taken source None = false
is_taken source (Some r) = not (is_from source r)

-- an RTS of the message x; found: there is memory for it
unfoldable pub takes_request : SessionRecord → ℕ → ℕ → Bool → Option ReceptionRecord → Reaction
takes_request x most now found o =
    if is_taken x.source o then answers o (Abort busy x.group)
    else if found then grants now (begun x most)
    else answers o (Abort no_resources x.group)

unfoldable pub takes_data : ℕ → ℕ → List ℕ → ℕ → Option ReceptionRecord → Reaction
takes_data source number part now None = quiet None
takes_data source number part now (Some r) =
    if is_from source r then takes_packet number part now r else quiet (Some r)

unfoldable pub takes_abort : ℕ → ℕ → Option ReceptionRecord → Reaction
takes_abort source pgn None = quiet None
takes_abort source pgn (Some r) = if is_from source r && pgn == r.message.group then quiet None else quiet (Some r)

-- what is said under a key: from its source to the receiver
unfoldable pub takes_signal : Key → Option Signal → ℕ → Bool → Option ReceptionRecord → Reaction
takes_signal k None now found o = quiet o
takes_signal k (Some (BroadcastAnnounce size packets pgn)) now found o = quiet o
takes_signal k (Some (RequestToSend size packets most pgn)) now found o =
    takes_request (opened k pgn size packets now) most now found o
takes_signal k (Some (ClearToSend count next pgn)) now found o = quiet o
takes_signal k (Some (Acknowledgment size packets pgn)) now found o = quiet o
takes_signal k (Some (Abort reason pgn)) now found o = takes_abort (sender k) pgn o
takes_signal k (Some (Packet number part)) now found o = takes_data (sender k) number part now o

-- ---- time

abbrev pub limit_of : ReceptionRecord → ℕ
limit_of r = if r.fresh then timer_t2 else timer_t1

-- exactly the limit is in time, and a time that goes back counts as no time passed
unfoldable pub takes_tick : ℕ → Option ReceptionRecord → Reaction
takes_tick now None = quiet None
takes_tick now (Some r) = if nat_lt (r.message.last + limit_of r) now then asks_again now r else quiet (Some r)
