-- What a box of the code holds.
use Rattle.std.specs.Prelude.{◌≡◌}
use Rattle.std.specs.declared.boxed.Box.{Box}
use Rattle.std.specs.Global.{Global}
use Rattle.j39_transport.specs.Receiving.{BoxedReceiver}
use Rattle.j39_transport.specs.Reception.{message_of, ReceptionRecord}
use Rattle.j39_sessions.specs.Common.{[], false, FrameRecord, Heard, IfSome, IsSome, List, MessageRecord, name_raw, None, Option, option_map, recv_step, Some, stamp_micros, ToSend, true, ℕ}
use Rattle.j39_sessions.specs.Sessions.{Session, session_by}
use Rattle.j39_sessions.specs.declared.seat.Outcome.{Outcome}
use Rattle.j39_sessions.specs.declared.seat.Seat.{Seat}

-- what stands for the session of a box in which none is open
abbrev pub blank : ReceptionRecord
blank = record {
  message = record { source = 0; destination = 0; group = 0; size = 0; packets = 0; count = 0; bytes = []; last = 0 };
  most = 0;
  granted = 0;
  asks = 0;
  fresh = false;
}

abbrev pub or_blank : Option ReceptionRecord → ReceptionRecord
or_blank None = blank
or_blank (Some r) = r

abbrev pub session_with : Seat → ReceptionRecord → Session
session_with x r = session_by (stamp_micros x.since) (option_map name_raw x.name) r

-- what is said of a frame that is to be sent
abbrev pub bytes_of : Option ToSend → Option (List ℕ)
bytes_of o = option_map (λ f. f.bytes) o

-- the receiver takes its step at a frame; what it says, and the message that it delivers, which lies there
pub record Receives (old : BoxedReceiver) (f : FrameRecord) (now : ℕ) (x : Outcome) (new : BoxedReceiver) : Type 0 where
  pub state : new.state ≡ (recv_step old.state (Heard f) now true).after
  pub box : new.has_box ≡ true
  pub says : x.says ≡ bytes_of (recv_step old.state (Heard f) now true).sends
  pub made : x.made ≡ option_map (λ m. (m.source, m.pgn)) (recv_step old.state (Heard f) now true).delivers
  pub lends : IfSome (recv_step old.state (Heard f) now true).delivers (λ m. new.lent ≡ Some (now, m))

-- the session in a box
abbrev pub session_in : Seat → Session
session_in x = session_with x (or_blank x.receiver.state.session)

abbrev pub in_box : Box Seat Global → Session
in_box b = session_in b.value

-- a message lies in a box
abbrev pub Lends : Box Seat Global → Type 0
Lends b = IsSome b.value.receiver.lent

abbrev pub lent_in : Option (ℕ × MessageRecord) → MessageRecord
lent_in None = message_of blank.message
lent_in (Some x) = x.1

-- this one, with the moment of its last packet
abbrev pub kept_in : Box Seat Global → ℕ × MessageRecord
kept_in b = (stamp_micros b.value.stamp, lent_in b.value.receiver.lent)

abbrev pub sender_in : Box Seat Global → Option ℕ
sender_in b = option_map name_raw b.value.name

-- a session is open in it, of a receiver at this address
abbrev pub IsOpenAt : ℕ → Box Seat Global → Type 0
IsOpenAt own b = (b.value.receiver.state.own ≡ own) × IsSome b.value.receiver.state.session
