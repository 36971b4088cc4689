-- What a node does, call by call (J1939-81, 4.2 and 4.5).
use Rattle.std.specs.Prelude.{◌≡◌, ◌≢◌, ◌⊎◌, ◌+◌, ◌<◌, ◌≤◌, ℕ, List, Option, Some, None}
use Rattle.j39_frame.specs.Address.{IsAddress, global_address, null_address}
use Rattle.j39_address.specs.Claim.{Claim}
use Rattle.j39_address.specs.Node.{Node, IsAt, IsCapable, IsLeastFree, NoneFree, with_claim}
use Rattle.j39_address.specs.Node.NodeStatus.{Idle, Claiming, Holding, Cannot}
use Rattle.j39_address.specs.Call.{Call}
use Rattle.j39_address.specs.Call.Call.{Start, Tick, Heard, Asked, Other, Commanded}

-- how long an address is claimed before it is the node's own, in microseconds
abbrev pub claim_time : ℕ
claim_time = 250000

-- ---- how a step ends: what is answered, an address to claim or none, and the node afterwards. C are the claims that it
-- knows by then

abbrev pub Rests : Node → Option ℕ → Node → Type 0
Rests old answer new = (answer ≡ None) × (new ≡ old)

abbrev pub Notes : Node → List (Option Claim) → Option ℕ → Node → Type 0
Notes old C answer new = (answer ≡ None) × (new ≡ record old { claims = C })

-- it sends a claim of a, or "cannot claim" where a is the null address, and stays as it is
abbrev pub Repeats : Node → List (Option Claim) → ℕ → Option ℕ → Node → Type 0
Repeats old C a answer new = (answer ≡ Some a) × (new ≡ record old { claims = with_claim C old.name a })

-- it claims a from now on
abbrev pub Begins : Node → List (Option Claim) → ℕ → ℕ → Option ℕ → Node → Type 0
Begins old C now a answer new =
    (answer ≡ Some a) × (new ≡ record old { status = Claiming a; moment = now; claims = with_claim C old.name a })

-- it has no address, and says so
abbrev pub GivesUp : Node → List (Option Claim) → Option ℕ → Node → Type 0
GivesUp old C answer new =
    (answer ≡ Some null_address) × (new ≡ record old { status = Cannot; claims = with_claim C old.name null_address })

-- ---- one step

pub data NodeStep (old : Node) (call : Call) (now : ℕ) (answer : Option ℕ) (new : Node) : Type 0 where
  -- an idle node is started; any other was
  starts : call ≡ Start → old.status ≡ Idle → Begins old old.claims now old.preferred answer new
      → NodeStep old call now answer new
  is_started : call ≡ Start → old.status ≢ Idle → Rests old answer new → NodeStep old call now answer new
  -- 250 ms after its claim the address is its own
  holds : (a : ℕ) → call ≡ Tick → old.status ≡ Claiming a → old.moment + claim_time ≤ now
      → answer ≡ None → new ≡ record old { status = Holding a } → NodeStep old call now answer new
  waits : (a : ℕ) → call ≡ Tick → old.status ≡ Claiming a → now < old.moment + claim_time
      → Rests old answer new → NodeStep old call now answer new
  ticks_on : call ≡ Tick → ((a : ℕ) → old.status ≢ Claiming a) → Rests old answer new → NodeStep old call now answer new
  -- a claim of its own NAME is ignored; one of another NAME, elsewhere, is noted
  hears_itself : (a : ℕ) → call ≡ Heard (record { name = old.name; address = a }) → Rests old answer new
      → NodeStep old call now answer new
  notes : (n a : ℕ) → call ≡ Heard (record { name = n; address = a }) → n ≢ old.name → (IsAt old a → ⊥)
      → Notes old (with_claim old.claims n a) answer new → NodeStep old call now answer new
  -- at its own address the smaller NAME wins: a larger one is answered, a smaller one takes the address
  wins : (n a : ℕ) → call ≡ Heard (record { name = n; address = a }) → IsAt old a → old.name < n
      → Repeats old (with_claim old.claims n a) a answer new → NodeStep old call now answer new
  moves : (n a b : ℕ) → call ≡ Heard (record { name = n; address = a }) → IsAt old a → n < old.name
      → IsCapable old.name → IsLeastFree (with_claim old.claims n a) b
      → Begins old (with_claim old.claims n a) now b answer new → NodeStep old call now answer new
  gives_up : (n a : ℕ) → call ≡ Heard (record { name = n; address = a }) → IsAt old a → n < old.name
      → (IsCapable old.name → NoneFree (with_claim old.claims n a))
      → GivesUp old (with_claim old.claims n a) answer new → NodeStep old call now answer new
  -- a request to all, or to its address, is answered; where it has none, one to all
  tells : (a to : ℕ) → call ≡ Asked to → IsAt old a → (to ≡ global_address) ⊎ (to ≡ a)
      → Repeats old old.claims a answer new → NodeStep old call now answer new
  tells_of_none : call ≡ Asked global_address → old.status ≡ Cannot
      → Repeats old old.claims null_address answer new → NodeStep old call now answer new
  is_not_asked : (to : ℕ) → call ≡ Asked to → ((a : ℕ) → IsAt old a → (to ≢ global_address) × (to ≢ a))
      → (old.status ≡ Cannot → to ≢ global_address) → Rests old answer new → NodeStep old call now answer new
  -- a node that was started obeys a command to its NAME
  obeys : (a : ℕ) → call ≡ Commanded (record { name = old.name; address = a }) → IsAddress a → old.status ≢ Idle
      → Begins old old.claims now a answer new → NodeStep old call now answer new
  ignores : (n a : ℕ) → call ≡ Commanded (record { name = n; address = a }) → (n ≢ old.name) ⊎ (null_address ≤ a)
      ⊎ (old.status ≡ Idle)
      → Rests old answer new → NodeStep old call now answer new
  -- every other frame is nothing to it
  passes : call ≡ Other → Rests old answer new → NodeStep old call now answer new
