-- The holder of an address at a place.
use Rattle.std.proofs.Common.{◌≡◌, ℕ, List, Option}
use Rattle.j39_address.proofs.HolderLemmas.{holder_is, same_holder}
use Rattle.j39_address.specs.Claim.{Claim}
use Rattle.j39_address.specs.Holder.{IsHolder}

abbrev pub holder_of : List (Option Claim) → ℕ → ℕ → Option ℕ
holder_of C i a = (holder_is C i a).0

pub held_is : (C : List (Option Claim)) (i a : ℕ) → IsHolder C i a (holder_of C i a)
held_is C i a = (holder_is C i a).1

pub held_only : (C : List (Option Claim)) (i a : ℕ) (o : Option ℕ) → IsHolder C i a o → o ≡ holder_of C i a
held_only C i a o h = same_holder C i a o (holder_of C i a) h (held_is C i a)
