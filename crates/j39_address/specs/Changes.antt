-- Which addresses have another holder after some more claims.
use Rattle.std.specs.Prelude.{◌≢◌, ℕ, List, Option}
use Rattle.std.specs.List.{Contains}
use Rattle.std.specs.List.Sorted.{IsStrictlyIncreasing}
use Rattle.j39_address.specs.Claim.{Claim}
use Rattle.j39_address.specs.Holder.{IsHolderAfter}

-- a has another holder after the later claims than after the earlier ones, or no longer one, or one now
abbrev pub ChangesHolder : List (Option Claim) → List (Option Claim) → ℕ → Type 0
ChangesHolder earlier later a = (old new : Option ℕ) → IsHolderAfter earlier a old → IsHolderAfter later a new
    → old ≢ new

-- the addresses whose holder changes from the earlier claims to the later ones, rising
pub record AreChanged (earlier later : List (Option Claim)) (addresses : List ℕ) : Type 0 where
  pub rising : IsStrictlyIncreasing addresses
  pub changed : (a : ℕ) → Contains addresses a → ChangesHolder earlier later a
  pub all : (a : ℕ) → ChangesHolder earlier later a → Contains addresses a
