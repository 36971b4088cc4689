-- What a receiver of the code shows.
use Rattle.std.specs.Prelude.{◌≡◌, ◌==◌, ◌<◌, ◌≤◌, ℕ, Bool, ◌||◌, if◌then◌else◌, Option, Some, None}
use Rattle.std.specs.Option.{is_some, option_map}
use Rattle.std.specs.declared.boxed.Box.{Box}
use Rattle.std.specs.Global.{Global}
use Rattle.j39_frame.specs.Pgn.{pgn_raw}
use Rattle.j39_frame.specs.Stamp.{stamp_micros}
use Rattle.j39_transport.specs.Cutting.{to_send}
use Rattle.j39_transport.specs.Message.{MessageRecord}
use Rattle.j39_transport.specs.Reception.{ReceptionRecord, Reaction, quiet, answers, message_of}
use Rattle.j39_transport.specs.Receiving.{ReceiverAnswer, lent_after}
use Rattle.j39_transport.specs.SignalModel.{said}
use Rattle.j39_transport.specs.declared.reception.Step.{Step}
use Rattle.j39_transport.specs.declared.reception.Step.TheVariants.{Quiet, Says, Aborts, Delivers}
use Rattle.j39_transport.specs.declared.message.Message.{Message}
use Rattle.j39_transport.specs.declared.receiver.Reply.{Reply}
use Rattle.j39_transport.specs.declared.receiver.Reply.TheVariants as reply

-- ---- one session

-- what is granted and asked is within the message
pub record IsReception (r : ReceptionRecord) : Type 0 where
  pub some : 1 ≤ r.most
  pub granted : r.granted ≤ r.message.packets
  pub asks : r.asks ≤ 2

-- what an event did to a session that is r afterwards
abbrev pub stepped : Step → ReceptionRecord → Reaction
stepped Quiet r = quiet (Some r)
stepped (Says a) r = answers (Some r) (said a)
stepped (Aborts a) r = answers None (said a)
stepped (Delivers a) r = record { session = None; says = Some (said a); delivers = Some (message_of r.message) }

-- a session that delivers has all its packets, and any other lacks one
abbrev pub IsStep : Step → ReceptionRecord → Type 0
IsStep Quiet r = r.message.count < r.message.packets
IsStep (Says a) r = r.message.count < r.message.packets
IsStep (Aborts a) r = r.message.count < r.message.packets
IsStep (Delivers a) r = r.message.count ≡ r.message.packets

-- one that delivers had its last packet at this moment
abbrev pub IsAt : ℕ → Step → ReceptionRecord → Type 0
IsAt now Quiet r = Unit {0}
IsAt now (Says a) r = Unit {0}
IsAt now (Aborts a) r = Unit {0}
IsAt now (Delivers a) r = r.message.last ≡ now

-- ---- the buffers

-- the open session, and the buffer that no session uses: that of the session last over, or a new one
pub record BuffersRecord : Type 0 where
  pub session : Option ReceptionRecord
  pub spare : Option ReceptionRecord

abbrev pub stored_in : Option (Box ReceptionRecord Global) → Option ReceptionRecord
stored_in o = option_map (λ b. b.value) o

-- an open session lacks a packet
abbrev pub IsOpen : Option ReceptionRecord → Type 0
IsOpen None = Unit {0}
IsOpen (Some r) = r.message.count < r.message.packets

-- whether there is a box, in use by the session or not
abbrev pub has_box : BuffersRecord → Bool
has_box b = is_some b.session || is_some b.spare

-- the whole message in a buffer, with the moment of its last packet
abbrev pub whole_in : Option ReceptionRecord → Option (ℕ × MessageRecord)
whole_in None = None
whole_in (Some r) = if r.message.count == r.message.packets then Some (r.message.last, message_of r.message) else None

-- that of the session last over, till another is open
abbrev pub lent_by : BuffersRecord → Option (ℕ × MessageRecord)
lent_by b = if is_some b.session then None else whole_in b.spare

-- what an event did, where the buffers are these afterwards
abbrev pub reacted : Step → BuffersRecord → Reaction
reacted Quiet b = quiet b.session
reacted (Says a) b = answers b.session (said a)
reacted (Aborts a) b = answers b.session (said a)
reacted (Delivers a) b = record
    { session = b.session; says = Some (said a); delivers = option_map (λ x. x.1) (lent_by b) }

-- and which message lies whole in them then
abbrev pub Lends : ℕ → Step → BuffersRecord → BuffersRecord → Type 0
Lends now step old new = lent_by new ≡ lent_after now (reacted step new).delivers new.session (lent_by old)

-- ---- answers

abbrev pub message_shown : Message → MessageRecord
message_shown m = record { source = m.source; pgn = pgn_raw m.pgn; bytes = m.payload.now }

-- with its moment
abbrev pub stamped : Message → ℕ × MessageRecord
stamped m = (stamp_micros m.stamp, message_shown m)

abbrev pub answer_of : Reply → ReceiverAnswer
answer_of reply.Nothing = record { sends = None; delivers = None }
answer_of (reply.Send id bytes) = record { sends = Some (to_send (id, bytes)); delivers = None }
answer_of (reply.Delivered m id bytes) = record
    { sends = Some (to_send (id, bytes)); delivers = Some (message_shown m) }

-- a message that is delivered has this moment
abbrev pub IsStamped : ℕ → Reply → Type 0
IsStamped now reply.Nothing = Unit {0}
IsStamped now (reply.Send id bytes) = Unit {0}
IsStamped now (reply.Delivered m id bytes) = stamp_micros m.stamp ≡ now
