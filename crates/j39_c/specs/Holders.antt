-- Addresses and their holders, by what calls answered and wrote out.
use Rattle.std.specs.Prelude.{ℕ, ℤ, pos, negsuc, List, [], ◌∷◌, ◌++◌, take}
use Rattle.j39_address.specs.Changes.{AreChanged}
use Rattle.j39_address.specs.Claim.{claims_of}
use Rattle.j39_address.specs.Claims.{Knows}
use Rattle.j39_address.specs.declared.claims.Claims.{Claims}
use Rattle.j39_frame.specs.Frame.{FrameRecord}

-- so many addresses
abbrev pub addresses_in : ℤ → List ℕ → List ℕ
addresses_in (pos n) changed = take n changed
addresses_in (negsuc n) changed = []

-- with one frame more the table knows it too, and these are the addresses whose holder it changed
pub record Notes (old : Claims) (frame : FrameRecord) (changed : List ℕ) (new : Claims) : Type 0 where
  pub knows : (F : List FrameRecord) → Knows old F → Knows new (F ++ frame ∷ [])
  pub changes : (F : List FrameRecord) → Knows old F → AreChanged (claims_of F) (claims_of (F ++ frame ∷ [])) changed
