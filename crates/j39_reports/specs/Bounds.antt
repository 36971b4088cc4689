-- The least and the most of some numbers.
use Rattle.std.specs.Prelude.{◌≡◌, ◌⊎◌, ◌≤ℤ◌, ℤ, List, All, Contains}

-- above none of a number and others, and one of them
pub record IsLeast (first : ℤ) (others : List ℤ) (n : ℤ) : Type 0 where
  pub below_first : n ≤ℤ first
  pub below : All (λ x. n ≤ℤ x) others
  pub among : (n ≡ first) ⊎ Contains others n

-- below none of them, and one of them
pub record IsMost (first : ℤ) (others : List ℤ) (n : ℤ) : Type 0 where
  pub above_first : first ≤ℤ n
  pub above : All (λ x. x ≤ℤ n) others
  pub among : (n ≡ first) ⊎ Contains others n
