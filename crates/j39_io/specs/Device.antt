-- What a call leaves of a device.
use Rattle.std.specs.Prelude.{◌≡◌, ◌<◌, Bool, true, false, Result, MatchResult, OnOk, Option, List, ◌++◌, ℕ, length}
use Rattle.std.specs.Io.KnownBytes.{Appends}

-- a fault sets the mark, and nothing else changes it
abbrev pub Marks : {T E : Type 0} → Result T E → Bool → Bool → Type 0
Marks r old new = MatchResult r (λ _. new ≡ old) (λ _. new ≡ true)

-- known bytes grow by a front of the bytes
abbrev pub AppendsFront : Option (List ℕ) → Option (List ℕ) → List ℕ → Type 0
AppendsFront old new bytes = (front rest : List ℕ) × (bytes ≡ front ++ rest) × Appends old new front

-- what became of the mark that all was passed on, where these bytes were written: they wait, what waited does so still, and of
-- no bytes nothing changes
pub record KeepsBack {T E : Type 0} (bytes : List ℕ) (r : Result T E) (old new : Bool) : Type 0 where
  pub waits : OnOk r (0 < length bytes → new ≡ false)
  pub still : new ≡ true → old ≡ true
  pub none : length bytes ≡ 0 → new ≡ old
