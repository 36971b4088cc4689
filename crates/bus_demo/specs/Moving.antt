-- How a controller moves to another address.
use Rattle.std.specs.Prelude.{◌≡◌, ◌≢◌, ◌⊎◌, ℕ, List, Option, None, Some}
use Rattle.j39_frame.specs.Address.{IsAddress}
use Rattle.j39_address.specs.Claim.{claims_of}
use Rattle.j39_address.specs.Node.{IsLeastFree, NoneFree}
use Rattle.j39_address.specs.declared.status.Status.TheVariants.{Cannot}
use Rattle.j39_node.specs.declared.controller.Controller.{Controller}
use Rattle.j39_node.specs.History.{Who, Call, told_claims}
use Rattle.j39_node.specs.Is.{Is, status_after}
use Rattle.j39_node.specs.Moving.{HasMoved, IsSettled}

-- it begins anew at this address
abbrev pub MovesTo : ℕ → Controller → Controller → Type 0
MovesTo address old new = (w : Who) (H : List Call) → Is w H old → HasMoved w H address new

-- the least free address, to which it moves, or there is none
abbrev pub MovesFree : Who → List Call → Controller → Controller → Type 0
MovesFree w H old new =
    ((address : ℕ) × IsLeastFree (claims_of (told_claims w H)) address × HasMoved w H address new)
    ⊎ (NoneFree (claims_of (told_claims w H)) × (new ≡ old))

-- where its address is lost, and nothing is left to be told or taken, it moves to a free one; else nothing happens
pub record MovesIfLost (old new : Controller) : Type 0 where
  pub stays : (w : Who) (H : List Call) → Is w H old → status_after w H ≢ Cannot → new ≡ old
  pub waits : (w : Who) (H : List Call) → Is w H old → (IsSettled w H → ⊥) → new ≡ old
  pub lost : (w : Who) (H : List Call) → Is w H old → status_after w H ≡ Cannot → IsSettled w H → MovesFree w H old new

-- it moves to the address that it is to claim, unless that is none or something is left to be told or taken; without such an
-- address, it moves if its own is lost
abbrev pub Moves : Option ℕ → Controller → Option ℕ → Controller → Type 0
Moves (Some address) old left new =
    ((left ≡ None) × MovesTo address old new)
    ⊎ ((left ≡ Some address) × (new ≡ old) × ((w : Who) (H : List Call) → Is w H old → IsAddress address → IsSettled w H → ⊥))
Moves None old left new = (left ≡ None) × MovesIfLost old new
