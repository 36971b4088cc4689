-- The receiver of directed transfers: what it does at each event (J1939-21, 5.10.3).
use Rattle.std.specs.Prelude.{◌≡◌, ℕ, nat_lt, Bool, true, ◌||◌, if◌then◌else◌, Option, Some, None}
use Rattle.std.specs.Option.{is_some, option_map}
use Rattle.j39_frame.specs.Address.{null_address}
use Rattle.j39_frame.specs.Frame.{FrameRecord}
use Rattle.j39_transport.specs.Cutting.{ToSend}
use Rattle.j39_transport.specs.Frames.{source_of}
use Rattle.j39_transport.specs.Key.{Directed}
use Rattle.j39_transport.specs.Message.{MessageRecord}
use Rattle.j39_transport.specs.Reception.{ReceptionRecord, Reaction, takes_signal, takes_tick}
use Rattle.j39_transport.specs.Signals.{Signal, said_between, written}

pub record ReceiverRecord : Type 0 where
  pub own : ℕ
  pub session : Option ReceptionRecord

abbrev pub new_receiver : ℕ → ReceiverRecord
new_receiver own = record { own = own; session = None }

pub data RecvEvent : Type 0 where
  Tick : RecvEvent
  Heard : FrameRecord → RecvEvent

-- what f says to the controller at its own address, from a source that is an address
unfoldable pub said_to : ℕ → FrameRecord → Option Signal
said_to own f = if nat_lt (source_of f.id) null_address then said_between (source_of f.id) own f else None

-- the receiver after an event, the frame that it sends, and the message that it delivers
pub record RecvResult : Type 0 where
  pub after : ReceiverRecord
  pub sends : Option ToSend
  pub delivers : Option MessageRecord

-- what is said goes from the own address to this one
abbrev pub result_of : ℕ → ℕ → Reaction → RecvResult
result_of own to x = record {
  after = record { own = own; session = x.session };
  sends = option_map (written own to) x.says;
  delivers = x.delivers;
}

abbrev pub partner_of : Option ReceptionRecord → ℕ
partner_of None = null_address
partner_of (Some r) = r.message.source

-- found: there is memory where an RTS asks for it
unfoldable pub recv_step : ReceiverRecord → RecvEvent → ℕ → Bool → RecvResult
recv_step r Tick now found = result_of r.own (partner_of r.session) (takes_tick now r.session)
recv_step r (Heard f) now found =
    result_of r.own (source_of f.id) (takes_signal (Directed (source_of f.id) r.own)
    (said_to r.own f) now found r.session)

-- what a call answers: a frame to send, and a message that is delivered
pub record ReceiverAnswer : Type 0 where
  pub sends : Option ToSend
  pub delivers : Option MessageRecord

abbrev pub answer_in : RecvResult → ReceiverAnswer
answer_in x = record { sends = x.sends; delivers = x.delivers }

-- the receiver takes the step of the event, and answers this
pub record RecvStep (old : ReceiverRecord) (event : RecvEvent) (now : ℕ) (answer : ReceiverAnswer)
    (new : ReceiverRecord) : Type 0 where
  pub found : Bool
  pub after : new ≡ (recv_step old event now found).after
  pub answers : answer ≡ answer_in (recv_step old event now found)

-- ---- its memory

-- a receiver, and whether it has a box: room for a message, in use by its session or not; and the message that lies there
-- whole, with the moment of its last packet
pub record BoxedReceiver : Type 0 where
  pub state : ReceiverRecord
  pub has_box : Bool
  pub lent : Option (ℕ × MessageRecord)

-- what lies there behind a step: what is delivered, or nothing where a session has the box, or what lay there
abbrev pub lent_after : ℕ → Option MessageRecord → Option ReceptionRecord → Option (ℕ × MessageRecord) → Option (ℕ × MessageRecord)
lent_after now (Some m) session lent = Some (now, m)
lent_after now None (Some r) lent = None
lent_after now None None lent = lent

-- it takes the step of a frame: memory is found where it has a box; and it has one then, where it had one or has a session
pub record HearStep (old : BoxedReceiver) (f : FrameRecord) (now : ℕ) (answer : ReceiverAnswer)
    (new : BoxedReceiver) : Type 0 where
  pub step : RecvStep old.state (Heard f) now answer new.state
  pub finds : old.has_box ≡ true → step.found ≡ true
  pub box_is : new.has_box ≡ (is_some new.state.session || old.has_box)
  pub lends : new.lent ≡ lent_after now answer.delivers new.state.session old.lent
