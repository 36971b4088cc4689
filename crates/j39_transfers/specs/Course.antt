-- A transfer whose frames are sent in time.
use Rattle.std.specs.Prelude.{if◌then◌else◌, ◌*◌, ◌++◌, ◌+◌, ◌∷◌, ◌≡◌, ◌≢◌, ◌≤◌}
use Rattle.j39_transfers.specs.Common.{[], Done, Failed, false, FrameRecord, Idle, IfSome, List, Option, Sending, Some, SendState, timer_t3, true, Waiting, ℕ}
use Rattle.j39_transfers.specs.Transfers.{begun, breaks, gives_up, hears_in, is_due, is_over, leaves_in, of, Order, sends_in, Transfer, TransfersRecord}
use Rattle.j39_transfers.specs.Events.{after, ends_to, Event, Hears, Sends, Tells}
use Rattle.j39_transfers.specs.declared.kinds.Ending.TheVariants as how

-- the moment from which on it sends a frame, if nothing is heard; that of a CTS behind which it gives up
abbrev pub due_from : SendState → ℕ → ℕ → ℕ
due_from Idle since last = last
due_from (Waiting limit) since last = since + limit
due_from (Sending next granted) since last = last
due_from Done since last = last
due_from (Failed reason) since last = last

abbrev pub due_by : Transfer → ℕ
due_by x = if gives_up x then x.last else due_from x.sender.state x.sender.since x.last

-- a moment is at most g behind that
abbrev pub IsInTime : ℕ → ℕ → Transfer → Type 0
IsInTime g now x = is_over x ≡ false → now ≤ due_by x + g

-- what a transfer is that began at this time, and whose frames are each sent at most g after they are due, whatever is heard
pub data Course (g start : ℕ) : Transfer → Type 0 where
  begins : (own : ℕ) (o : Order) (name : Option ℕ) → Course g start (begun own o name start)
  hears : (x : Transfer) (f : FrameRecord) (now : ℕ) → Course g start x → IsInTime g now x → Course g start (hears_in f now x)
  sends : (x : Transfer) (now : ℕ) → Course g start x → IsInTime g now x → is_due now x ≡ true → Course g start (sends_in now x)
  leaves : (x : Transfer) (gone : Option ℕ) (holder : ℕ → Option ℕ) (now : ℕ) → Course g start x → Course g start (leaves_in gone holder now x)
  loses : (x : Transfer) (now : ℕ) → Course g start x → Course g start (breaks how.Withdrawn now x)

-- one round: it waits 1,250 ms (T3) at most, and sends n packets; and how long all may take
abbrev pub round : ℕ → ℕ → ℕ
round g n = timer_t3 + (n + 1) * g

abbrev pub longest : ℕ → ℕ → ℕ
longest g n = timer_t3 + 2 * g + (n + 65) * round g n

-- behind what is heard and sent it is in time, and its end isn't told
abbrev pub IsPrompt : ℕ → ℕ → Event → TransfersRecord → Type 0
IsPrompt g a (Hears f now) s = IfSome (of a s.running) (IsInTime g now)
IsPrompt g a (Sends now) s = IfSome (of a s.running) (IsInTime g now)
IsPrompt g a Tells s = ends_to s ≢ Some a
IsPrompt g a event s = Unit {0}

abbrev pub ArePrompt : ℕ → ℕ → ℕ → ℕ → List Event → List Event → Type 0
ArePrompt own boxes g a [] E = Unit {0}
ArePrompt own boxes g a (event ∷ later) E = IsPrompt g a event (after own boxes (later ++ E)) × ArePrompt own boxes g a later E
