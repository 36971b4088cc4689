-- The node that a claimer is, and what its calls are.
use Rattle.std.specs.Prelude.{◌≡◌, ℕ, zero, suc, Option}
use Rattle.j39_address.specs.declared.status.State.{State}
use Rattle.std.specs.Option.{option_map}
use Rattle.j39_frame.specs.Frame.{FrameRecord}
use Rattle.j39_address.specs.declared.claimer.Claimer.{Claimer}
use Rattle.j39_address.specs.declared.status.Status.{Status}
use Rattle.j39_address.specs.declared.status.Status.TheVariants.{Idle, Claiming, Holding, Cannot}
use Rattle.j39_address.specs.Name.{name_raw}
use Rattle.j39_address.specs.Claim.{claim_frame}
use Rattle.j39_address.specs.Claims.{StandsFor}
use Rattle.j39_address.specs.Node as node
use Rattle.j39_address.specs.Node.{Node, NodeStatus}
use Rattle.j39_address.specs.Call.{Call}
use Rattle.j39_address.specs.NodeStep.{NodeStep}

-- a status as the call answers it
abbrev pub status_of : Status → NodeStatus
status_of Idle = node.Idle
status_of (Claiming a) = node.Claiming a
status_of (Holding a) = node.Holding a
status_of Cannot = node.Cannot

-- a status as two numbers
abbrev pub status_by : ℕ → ℕ → Status
status_by zero a = Idle
status_by (suc zero) a = Claiming a
status_by (suc (suc zero)) a = Holding a
status_by (suc (suc (suc n))) a = Cannot

abbrev pub status_in : State → Status
status_in s = status_by s.kind s.address

abbrev pub plain : Status → State
plain Idle = record { kind = 0; address = 0 }
plain (Claiming a) = record { kind = 1; address = a }
plain (Holding a) = record { kind = 2; address = a }
plain Cannot = record { kind = 3; address = 0 }

-- the claimer is this node
pub record IsNode (claimer : Claimer) (node : Node) : Type 0 where
  pub name : name_raw claimer.name ≡ node.name
  pub preferred : claimer.preferred ≡ node.preferred
  pub status : status_of (status_in claimer.status) ≡ node.status
  pub moment : claimer.moment ≡ node.moment
  pub claims : StandsFor claimer.claims node.claims

-- the node makes a step after which it is the claimer, and what it answers is this frame, or none
pub record MakesStep (node : Node) (call : Call) (now : ℕ) (frame : Option FrameRecord)
    (claimer : Claimer) : Type 0 where
  pub answer : Option ℕ
  pub after : Node
  pub step : NodeStep node call now answer after
  pub is_node : IsNode claimer after
  pub frame_is : frame ≡ option_map (claim_frame now node.name) answer

-- a call is a step of every node that the claimer is
abbrev pub Steps : Claimer → Call → ℕ → Option FrameRecord → Claimer → Type 0
Steps old call now frame new = (node : Node) → IsNode old node → MakesStep node call now frame new
