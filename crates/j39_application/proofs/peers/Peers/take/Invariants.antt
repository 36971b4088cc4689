use Rattle.std.proofs.Common.{◌≡◌, ◌<◌, ℕ, List}
use Rattle.j39_address.specs.Claim.{claims_of}
use Rattle.j39_address.specs.Holder.{IsHolderAfter}
use Rattle.j39_node.specs.History.{Call, Who, told_claims}
use Rattle.j39_node.specs.Is.{Is}
use Rattle.j39_application.specs.Peers.{told_in}
use Rattle.j39_application.proofs.peers.Peers.take.Given as goal

-- nothing has changed, and those before have the holder that was told
abbrev pub invariant-loop-address : goal.invariant-loop-address
invariant-loop-address l = (l.self ≡ l.fn.self) × ((w : Who) (H : List Call) → Is w H l.fn.controller → (a : ℕ) → a < l.address
    → IsHolderAfter (claims_of (told_claims w H)) a (told_in l.fn.self a))
