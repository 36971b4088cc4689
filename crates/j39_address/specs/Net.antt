-- A net of nodes that claim addresses: nothing is lost, and claims come in any order (J1939-81, 4.5).
use Rattle.std.specs.Prelude.{◌≡◌, ◌≢◌, ◌⊎◌, ◌==◌, ℕ, zero, suc, List, [], ◌∷◌, ◌++◌, length, slice_get, slice_set, Option, Some, None, if◌then◌else◌}
use Rattle.std.specs.List.{Contains}
use Rattle.j39_address.specs.Claim.{Claim}
use Rattle.j39_address.specs.Node.{Node, IsAt}
use Rattle.j39_address.specs.Node.NodeStatus.{Idle}
use Rattle.j39_address.specs.Call.{Call}
use Rattle.j39_address.specs.Call.Call.{Heard}
use Rattle.j39_address.specs.NodeStep.{NodeStep}

-- a claim on its way to the member of this number
pub record Delivery : Type 0 where
  pub claim : Claim
  pub to : ℕ

pub record Net : Type 0 where
  pub members : List Node
  pub pending : List Delivery

-- m is the member of this number
abbrev pub IsMember : Net → ℕ → Node → Type 0
IsMember net i m = slice_get net.members i ≡ Some m

-- the claim on its way to each of the first `count` members but the sender
abbrev pub sent_to : ℕ → ℕ → Claim → List Delivery
sent_to zero sender claim = []
sent_to (suc count) sender claim =
    if count == sender then sent_to count sender claim else record
    { claim = claim; to = count } ∷ sent_to count sender claim

-- what a member's answer, if any, puts on its way: a claim, "cannot claim" too
abbrev pub sent : ℕ → ℕ → ℕ → Option ℕ → List Delivery
sent count sender n None = []
sent count sender n (Some a) = sent_to count sender (record { name = n; address = a })

-- the net once the member i is `new`: `rest` is still on its way, and so is the answer
abbrev pub moved : Net → List Delivery → ℕ → Node → Option ℕ → Net
moved net rest i new answer = record {
  members = slice_set net.members i new;
  pending = rest ++ sent (length net.members) i new.name answer;
}

pub data NetStep (old new : Net) : Type 0 where
  -- a member is called with anything but a claim, at any moment
  acts : (i now : ℕ) (call : Call) (m n : Node) (answer : Option ℕ) → IsMember old i m
      → ((claim : Claim) → call ≢ Heard claim)
      → NodeStep m call now answer n → new ≡ moved old old.pending i n answer → NetStep old new
  -- a member hears one of the claims that are on their way to it
  hears : (now : ℕ) (before later : List Delivery) (d : Delivery) (m n : Node) (answer : Option ℕ)
      → old.pending ≡ before ++ d ∷ later
      → IsMember old d.to m → NodeStep m (Heard d.claim) now answer n
      → new ≡ moved old (before ++ later) d.to n answer → NetStep old new

-- any number of steps
pub data NetRun : Net → Net → Type 0 where
  done : {w : Net} → NetRun w w
  more : {u v w : Net} → NetRun u v → NetStep v w → NetRun u w

-- all members are idle, of distinct NAMEs, and nothing is on its way
pub record IsStart (net : Net) : Type 0 where
  pub idle : (i : ℕ) (m : Node) → IsMember net i m → m.status ≡ Idle
  pub distinct : (i j : ℕ) (m n : Node) → IsMember net i m → IsMember net j n → m.name ≡ n.name → i ≡ j
  pub nothing : net.pending ≡ []

-- n's claim of a is on its way to the member of this number
abbrev pub IsPending : ℕ → ℕ → ℕ → List Delivery → Type 0
IsPending n a to deliveries = Contains deliveries (record { claim = record { name = n; address = a }; to = to })

-- of two members at one address, the claim of one is on its way to the other
abbrev pub OneIsTold : Net → Type 0
OneIsTold net = (i j a : ℕ) (m n : Node) → IsMember net i m → IsMember net j n → i ≢ j → IsAt m a → IsAt n a
    → IsPending m.name a j net.pending ⊎ IsPending n.name a i net.pending

-- no two members are at one address
abbrev pub NoneShared : Net → Type 0
NoneShared net = (i j a : ℕ) (m n : Node) → IsMember net i m → IsMember net j n → IsAt m a → IsAt n a → i ≡ j
