-- Text that is written from its end on backwards.
use Rattle.std.specs.Prelude.{◌≡◌, ◌+◌, ◌/◌, ◌%◌, ℕ, List, [], ◌∷◌, ◌++◌, length, drop}

-- the text stands from start up to end, and what follows it is as it was
pub record WritesBefore (old new : List ℕ) (end start : ℕ) (text : List ℕ) : Type 0 where
  pub starts : start + length text ≡ end
  pub written : drop start new ≡ text ++ drop end old

-- the two digits of a number below 100
abbrev pub two_digits : ℕ → List ℕ
two_digits n = (48 + n / 10) ∷ (48 + n % 10) ∷ []
