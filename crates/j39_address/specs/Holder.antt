-- Who holds an address, by the claims so far (J1939-81, 4.2.2).
use Rattle.std.specs.Prelude.{◌≡◌, ℕ, zero, suc, ◌<◌, List, length, get_or, Option, Some, None}
use Rattle.j39_frame.specs.Address.{IsAddress}
use Rattle.j39_address.specs.Claim.{Claim}

-- at place j of the claims n claims a
abbrev pub ClaimsAt : List (Option Claim) → ℕ → ℕ → ℕ → Type 0
ClaimsAt C j n a = get_or C j None ≡ Some (record { name = n; address = a })

-- n holds a before place i since its claim at place j; Held m says that m held a before that claim
pub record HoldsSince (C : List (Option Claim)) (i n a j : ℕ) (Held : ℕ → Type 0) : Type 0 where
  pub address : IsAddress a
  pub before : j < i
  pub claims : ClaimsAt C j n a
  pub claims_no_more : (k b : ℕ) → j < k → k < i → ClaimsAt C k n b → ⊥
  pub no_smaller_claims : (k m : ℕ) → j < k → k < i → m < n → ClaimsAt C k m a → ⊥
  pub no_smaller_held : (m : ℕ) → m < n → Held m → ⊥

-- n holds a before place i; the number before C bounds how often this looks back from a claim to an older one
abbrev pub HoldsWithin : ℕ → List (Option Claim) → ℕ → ℕ → ℕ → Type 0
HoldsWithin zero C i n a = ⊥
HoldsWithin (suc bound) C i n a = (j : ℕ) × HoldsSince C i n a j (λ m. HoldsWithin bound C j m a)

-- n holds a before place i of the claims: from there, i times are enough to look back
abbrev pub Holds : List (Option Claim) → ℕ → ℕ → ℕ → Type 0
Holds C i n a = HoldsWithin i C i n a

-- the NAME that holds a before place i, or none
abbrev pub IsHolder : List (Option Claim) → ℕ → ℕ → Option ℕ → Type 0
IsHolder C i a (Some n) = Holds C i n a
IsHolder C i a None = (n : ℕ) → Holds C i n a → ⊥

-- the NAME that holds a after all the claims, or none
abbrev pub IsHolderAfter : List (Option Claim) → ℕ → Option ℕ → Type 0
IsHolderAfter C a holder = IsHolder C (length C) a holder
