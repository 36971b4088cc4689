-- A node: a controller with an address of its own, and the claims that it knows (J1939-81, 4.2 and 4.5).
use Rattle.std.specs.Prelude.{◌≡◌, ◌<◌, ◌≤◌, ℕ, List, [], ◌∷◌, ◌++◌, Option, Some, None}
use Rattle.j39_address.specs.Name.{fields_of}
use Rattle.j39_address.specs.Claim.{Claim}
use Rattle.j39_address.specs.Holder.{IsHolderAfter}

-- not started; an address was claimed a short while ago; the address is its own; it lost its address and has none
pub data NodeStatus : Type 0 where
  Idle : NodeStatus
  Claiming : ℕ → NodeStatus
  Holding : ℕ → NodeStatus
  Cannot : NodeStatus

-- its NAME, the address that it starts with, how far it is, when it last began to claim an address, and the claims that it
-- sent, "cannot claim" too, or heard from other NAMEs
pub record Node : Type 0 where
  pub name : ℕ
  pub preferred : ℕ
  pub status : NodeStatus
  pub moment : ℕ
  pub claims : List (Option Claim)

-- a node that was not started and has heard nothing
abbrev pub idle_node : ℕ → ℕ → Node
idle_node name preferred = record { name = name; preferred = preferred; status = Idle; moment = 0; claims = [] }

-- the address that is claimed or held, or none
abbrev pub address_of : NodeStatus → Option ℕ
address_of Idle = None
address_of (Claiming a) = Some a
address_of (Holding a) = Some a
address_of Cannot = None

-- the node claims or holds a
abbrev pub IsAt : Node → ℕ → Type 0
IsAt node a = address_of node.status ≡ Some a

-- the claims, and then that of a by n
abbrev pub with_claim : List (Option Claim) → ℕ → ℕ → List (Option Claim)
with_claim C n a = C ++ Some (record { name = n; address = a }) ∷ []

-- an arbitrary address capable NAME may claim another address than its preferred one
abbrev pub IsCapable : ℕ → Type 0
IsCapable name = (fields_of name).arbitrary ≡ 1

-- one of the addresses for it that nobody holds after these claims
pub record IsFree (C : List (Option Claim)) (a : ℕ) : Type 0 where
  pub least : 128 ≤ a
  pub most : a ≤ 247
  pub unheld : IsHolderAfter C a None

abbrev pub IsLeastFree : List (Option Claim) → ℕ → Type 0
IsLeastFree C a = IsFree C a × ((b : ℕ) → b < a → IsFree C b → ⊥)

abbrev pub NoneFree : List (Option Claim) → Type 0
NoneFree C = (a : ℕ) → IsFree C a → ⊥
