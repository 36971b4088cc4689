-- A node that nothing drives away settles at its address, and so does the smallest NAME of a net (J1939-81, 4.5).
use Rattle.std.specs.Prelude.{◌≡◌, ◌≢◌, ◌⊎◌, ◌<◌, ℕ, List, [], ◌∷◌, Option, Some}
use Rattle.std.specs.List.{All}
use Rattle.j39_address.specs.Node.{Node, IsAt, IsCapable, NoneFree, with_claim}
use Rattle.j39_address.specs.Node.NodeStatus.{Claiming}
use Rattle.j39_address.specs.Call.{Call}
use Rattle.j39_address.specs.Call.Call.{Heard, Commanded}
use Rattle.j39_address.specs.NodeStep.{NodeStep}
use Rattle.j39_address.specs.Net.{Net, NetStep, NetRun, IsMember, IsStart}
use Rattle.j39_address.specs.Net.NetStep.{acts, hears}
use Rattle.j39_address.specs.Net.NetRun.{done, more}

-- ---- one node

-- what a node is called with, and when
pub record TimedCall : Type 0 where
  pub call : Call
  pub now : ℕ

-- the node makes a step at each of these calls in turn, and is `last` in the end
abbrev pub Runs : Node → List TimedCall → Node → Type 0
Runs first [] last = first ≡ last
Runs first (c ∷ calls) last =
    (answer : Option ℕ) × (next : Node) × NodeStep first c.call c.now answer next × Runs next calls last

-- the node has claimed a since the moment t, and a isn't its own yet
pub record ClaimsSince (node : Node) (a t : ℕ) : Type 0 where
  pub status : node.status ≡ Claiming a
  pub moment : node.moment ≡ t

-- the call is a smaller NAME's claim of a, or a command to n
abbrev pub DrivesAway : ℕ → ℕ → Call → Type 0
DrivesAway n a call =
    ((k : ℕ) × (k < n) × (call ≡ Heard (record { name = k; address = a })))
    ⊎ ((b : ℕ) × (call ≡ Commanded (record { name = n; address = b })))

-- none of the calls drives n away from a
abbrev pub NoneDrivesAway : ℕ → ℕ → List TimedCall → Type 0
NoneDrivesAway n a calls = All (λ c. DrivesAway n a c.call → ⊥) calls

-- the call is a smaller NAME's claim of the node's own address, and no address that it may choose is left
pub record HasNoneLeft (node : Node) (call : Call) : Type 0 where
  pub name : ℕ
  pub address : ℕ
  pub claimed : call ≡ Heard (record { name = name; address = address })
  pub at : IsAt node address
  pub smaller : name < node.name
  pub none_free : IsCapable node.name → NoneFree (with_claim node.claims name address)

-- ---- a net

-- the member that makes a step
abbrev pub mover : {u v : Net} → NetStep u v → Node
mover (acts i now call m n answer at other step after) = m
mover (hears now before rest d m n answer on_its_way at step after) = m

-- what it is called with
abbrev pub call_in : {u v : Net} → NetStep u v → Call
call_in (acts i now call m n answer at other step after) = call
call_in (hears now before rest d m n answer on_its_way at step after) = Heard d.claim

-- what it answers
abbrev pub answer_in : {u v : Net} → NetStep u v → Option ℕ
answer_in (acts i now call m n answer at other step after) = answer
answer_in (hears now before rest d m n answer on_its_way at step after) = answer

-- no member with a smaller NAME than n claims a in the run
abbrev pub NoSmallerClaims : ℕ → ℕ → {u v : Net} → NetRun u v → Type 0
NoSmallerClaims n a done = Unit {0}
NoSmallerClaims n a (more run step) = NoSmallerClaims n a run × ((mover step).name < n → answer_in step ≢ Some a)

-- n is not commanded in the run
abbrev pub NotCommanded : ℕ → {u v : Net} → NetRun u v → Type 0
NotCommanded n done = Unit {0}
NotCommanded n (more run step) =
    NotCommanded n run × ((b : ℕ) → (mover step).name ≡ n → call_in step ≢ Commanded (record { name = n; address = b }))

-- between the two runs the member m is at a; no smaller NAME ever claims a, and m is not commanded later on
pub record IsSmallestAt (start mid last : Net) (earlier : NetRun start mid) (later : NetRun mid last)
    (i a : ℕ) (m : Node) : Type 0 where
  pub starts : IsStart start
  pub member : IsMember mid i m
  pub at : IsAt m a
  pub smallest : NoSmallerClaims m.name a earlier
  pub smallest_on : NoSmallerClaims m.name a later
  pub not_commanded : NotCommanded m.name later
