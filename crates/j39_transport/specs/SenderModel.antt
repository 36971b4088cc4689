-- What a sender of the code shows.
use Rattle.std.specs.Prelude.{◌≤◌, ℕ}
use Rattle.j39_frame.specs.Address.{IsAddress}
use Rattle.j39_frame.specs.Stamp.{stamp_micros}
use Rattle.j39_transport.specs.Message.{MessageRecord, IsLong, packets_of}
use Rattle.j39_transport.specs.Protocol.{timer_t3}
use Rattle.j39_transport.specs.Sending as sending
use Rattle.j39_transport.specs.declared.sender.Course.{Course}
use Rattle.j39_transport.specs.declared.progress.Progress.{Progress}
use Rattle.j39_transport.specs.declared.progress.Progress.TheVariants.{Idle, Waiting, Sending, Done, Failed}
use Rattle.j39_transport.specs.declared.progress.SendState.{SendState}
use Rattle.j39_transport.specs.declared.progress.SendState.TheVariants as state
use Rattle.j39_transport.specs.declared.progress.SendEvent.{SendEvent}
use Rattle.j39_transport.specs.declared.progress.SendEvent.TheVariants as event

abbrev pub progress_in : Progress → sending.SendState
progress_in Idle = sending.Idle
progress_in (Waiting limit) = sending.Waiting limit
progress_in (Sending next last) = sending.Sending next last
progress_in Done = sending.Done
progress_in (Failed reason) = sending.Failed reason

-- the sender of a message that is so far with it
abbrev pub sender_of : MessageRecord → Course → sending.SenderRecord
sender_of m c = record {
  message = m;
  destination = c.destination;
  state = progress_in c.progress;
  since = stamp_micros c.since;
  highest = c.highest;
}

-- the state without its limit, or the packets that are to be sent
abbrev pub state_of : sending.SendState → SendState
state_of sending.Idle = state.Idle
state_of (sending.Waiting limit) = state.Waiting
state_of (sending.Sending next last) = state.Sending
state_of sending.Done = state.Done
state_of (sending.Failed reason) = state.Failed reason

abbrev pub event_of : SendEvent → sending.SendEvent
event_of event.Tick = sending.Tick
event_of (event.Heard f) = sending.Heard f.now

-- packets that are to be sent are of the message
abbrev pub IsState : ℕ → sending.SendState → Type 0
IsState packets sending.Idle = Unit {0}
IsState packets (sending.Waiting limit) = limit ≤ timer_t3
IsState packets (sending.Sending next last) = (1 ≤ next) × (next ≤ last) × (last ≤ packets)
IsState packets sending.Done = Unit {0}
IsState packets (sending.Failed reason) = Unit {0}

pub record IsSender (s : sending.SenderRecord) : Type 0 where
  pub message : IsLong s.message
  pub destination : IsAddress s.destination
  pub state : IsState (packets_of s.message) s.state
  pub highest : s.highest ≤ packets_of s.message
