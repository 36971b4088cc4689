-- The steps of a table of holders at a claim, below the definitions.
use Rattle.std.specs.Prelude.{◌≡◌, ◌≢◌, ◌<◌, ◌≤◌, ℕ, nat_lt, List, [], ◌∷◌, Option, Some, None, IfSome, if◌then◌else◌}
use Rattle.j39_frame.specs.Address.{IsAddress}
use Rattle.j39_address.specs.declared.claims.Claims.{Claims}
use Rattle.j39_address.specs.Claims.{holder_in}

-- every address but this one, if any, has the holder that it had
abbrev pub KeepsOthers : Claims → Claims → Option ℕ → Type 0
KeepsOthers old new changed = (a : ℕ) → changed ≢ Some a → holder_in new a ≡ holder_in old a

-- n leaves the address that it holds, if that is another than the one that it claims
pub record Leaves (old new : Claims) (n address : ℕ) (left : Option ℕ) : Type 0 where
  pub found : IfSome left (λ b. (b ≢ address) × (holder_in old b ≡ Some n) × (holder_in new b ≡ None))
  pub none : left ≡ None → holder_in old address ≢ Some n → (b : ℕ) → holder_in old b ≢ Some n
  pub others : KeepsOthers old new left

-- n takes the address that it claims from nobody, or from a larger NAME
pub record Takes (old new : Claims) (n address : ℕ) (taken : Option ℕ) : Type 0 where
  pub found : IfSome taken (λ a. (a ≡ address) × IsAddress a × ((m : ℕ) → holder_in old a ≡ Some m → n < m)
      × (holder_in new a ≡ Some n))
  pub none : taken ≡ None → IsAddress address → (m : ℕ) × (holder_in old address ≡ Some m) × (m ≤ n)
  pub others : KeepsOthers old new taken

-- at most two addresses, the lower first
abbrev pub in_order : Option ℕ → Option ℕ → List ℕ
in_order None None = []
in_order None (Some a) = a ∷ []
in_order (Some b) None = b ∷ []
in_order (Some b) (Some a) = if nat_lt b a then b ∷ a ∷ [] else a ∷ b ∷ []
