-- What the demo does with a controller, told by the calls that it makes.
use Rattle.std.specs.Prelude.{◌≡◌, ◌++◌, ◌==◌, ℕ, Bool, true, false, List, ◌∷◌, Option, Some, None, Result, if◌then◌else◌}
use Rattle.std.specs.Result.{is_ok}
use Rattle.std.specs.List.{list_all}
use Rattle.j39_frame.specs.Frame.{FrameRecord}
use Rattle.j39_address.specs.Command.{Command, commanded_of}
use Rattle.j39_address.specs.declared.status.Status.{Status}
use Rattle.j39_address.specs.declared.status.Status.TheVariants.{Idle, Claiming, Holding, Cannot}
use Rattle.j39_transport.specs.Message.{MessageRecord}
use Rattle.j39_node.specs.declared.controller.Controller.{Controller}
use Rattle.j39_node.specs.History.{Call, Draft, Who}
use Rattle.j39_node.specs.History.Call.{At, TakeAskEnded, TakeEnded, TakeBroadcastEnded, TakeTransferEnded, TakeReceived, TakeNews, ReleaseTransfer, ReleaseBroadcast}
use Rattle.j39_node.specs.History.Act.{Hear, Tick, TakeFrame, Send, Broadcast, Transfer}
use Rattle.j39_node.specs.Is.{Is, status_after}
use Rattle.j39_node.specs.declared.kinds.Refused.{Refused}
use Rattle.j39_application.specs.Sending.{sent_as}

-- this call was made, whatever was called before
abbrev pub Continues : Call → Controller → Controller → Type 0
Continues call old new = (w : Who) (H : List Call) → Is w H old → Is w (call ∷ H) new

-- calls of this kind were made, and no others
abbrev pub Calls : (Call → Bool) → Controller → Controller → Type 0
Calls kind old new =
    (w : Who) (H : List Call) → Is w H old → (more : List Call) × (list_all kind more ≡ true) × Is w (more ++ H) new

-- this message was handed in at this moment, whatever its way is, and accepted or refused
pub record HandsIn (micros : ℕ) (draft : Draft) (accepted : Bool) (old new : Controller) : Type 0 where
  pub answer : Result ℕ Refused
  pub accepts : accepted ≡ is_ok answer
  pub goes : Continues (At micros (sent_as draft answer)) old new

-- it takes what there is for the program
abbrev pub is_taking : Call → Bool
is_taking (TakeEnded answer) = true
is_taking (TakeBroadcastEnded answer) = true
is_taking (TakeTransferEnded answer) = true
is_taking (TakeAskEnded answer) = true
is_taking (TakeReceived answer) = true
is_taking (TakeNews answer) = true
is_taking (ReleaseTransfer answer) = true
is_taking (ReleaseBroadcast answer) = true
is_taking call = false

-- time passed, and what ended was taken
abbrev pub Ticked : ℕ → Controller → Controller → Type 0
Ticked micros old new = (ticked : Controller) × Continues (At micros Tick) old ticked × Calls is_taking ticked new

-- a frame was heard, and what came of it for the program was taken
abbrev pub Heard : FrameRecord → Controller → Controller → Type 0
Heard f old new = (heard : Controller) × Continues (At f.stamp (Hear f)) old heard × Calls is_taking heard new

-- this frame was taken out, or there was none, and what ended by that was taken
abbrev pub Takes : ℕ → Option FrameRecord → Controller → Controller → Type 0
Takes micros frame old new = (taken : Controller) × Continues (At micros (TakeFrame frame)) old taken × Calls is_taking taken new

-- it hands in a message at this moment
abbrev pub is_handing : ℕ → Call → Bool
is_handing micros (At now (Send draft answer)) = now == micros
is_handing micros (At now (Broadcast group bytes answer)) = now == micros
is_handing micros (At now (Transfer priority group to bytes answer)) = now == micros
is_handing micros call = false

-- the address that a controller holds
abbrev pub held_by : Status → Option ℕ
held_by Idle = None
held_by (Claiming address) = None
held_by (Holding address) = Some address
held_by Cannot = None

abbrev pub held_after : Who → List Call → Option ℕ
held_after w H = held_by (status_after w H)

-- the address that a broadcast commands a NAME to (J1939-81, 4.2.3)
abbrev pub for_name : ℕ → Option Command → Option ℕ
for_name name None = None
for_name name (Some command) = if command.name == name then Some command.address else None

abbrev pub command_to : ℕ → Option (ℕ × MessageRecord) → Option ℕ
command_to name None = None
command_to name (Some broadcast) = for_name name (commanded_of broadcast.1.pgn broadcast.1.bytes)
