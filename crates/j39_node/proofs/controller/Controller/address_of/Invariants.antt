use Rattle.j39_node.proofs.Common.{◌<◌, Call, claims_of, Is, IsHolderAfter, List, name_raw, Some, told_claims, Who, ℕ}
use Rattle.j39_node.proofs.controller.Controller.address_of.Given as goal

-- the NAME holds no address so far
abbrev pub invariant-loop-address : goal.invariant-loop-address
invariant-loop-address l = (w : Who) (H : List Call) → Is w H l.self → (a : ℕ) → a < l.address
    → IsHolderAfter (claims_of (told_claims w H)) a (Some (name_raw l.name)) → ⊥
