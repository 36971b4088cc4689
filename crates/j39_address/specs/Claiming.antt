-- The steps of a claimer, below the definitions.
use Rattle.std.specs.Prelude.{◌≡◌, ◌≢◌, ◌<◌, ◌≤◌, ℕ, List, Option, Some, None}
use Rattle.j39_frame.specs.Frame.{FrameRecord}
use Rattle.j39_address.specs.declared.claims.Claims.{Claims}
use Rattle.j39_address.specs.declared.claimer.Claimer.{Claimer}
use Rattle.j39_address.specs.Name.{name_raw}
use Rattle.j39_address.specs.Claim.{Claim, claim_frame}
use Rattle.j39_address.specs.Claims.{StandsFor, holder_in}
use Rattle.j39_address.specs.Node.{with_claim}

-- the claimer notes its own claim of a, and answers its frame; all else stays
pub record Says (old new : Claimer) (a now : ℕ) (frame : Option FrameRecord) : Type 0 where
  pub frame_is : frame ≡ Some (claim_frame now (name_raw old.name) a)
  pub noted : (C : List (Option Claim)) → StandsFor old.claims C
      → StandsFor new.claims (with_claim C (name_raw old.name) a)
  pub name : new.name ≡ old.name
  pub preferred : new.preferred ≡ old.preferred
  pub status : new.status ≡ old.status
  pub moment : new.moment ≡ old.moment

-- the least address of 128 to 247 that nobody holds in the table
pub record IsLeastUnheld (claims : Claims) (a : ℕ) : Type 0 where
  pub from : 128 ≤ a
  pub to : a ≤ 247
  pub unheld : holder_in claims a ≡ None
  pub least : (b : ℕ) → 128 ≤ b → b < a → holder_in claims b ≢ None
