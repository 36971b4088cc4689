-- Columns: what they say, and where they go wrong.
use Rattle.std.specs.Prelude.{◌≡◌, ℕ, suc, List, take}

-- the texts are the columns of this good value, and of no other
pub record AreColumnsOf {T : Type 0} (IsGood : T → Type 0) (columns : T → List (List ℕ)) (texts : List (List ℕ))
    (x : T) : Type 0 where
  pub good : IsGood x
  pub texts_are : texts ≡ columns x
  pub only : (y : T) → IsGood y → texts ≡ columns y → y ≡ x

-- some good value agrees with the texts in the first columns, so many, and none in one more
pub record IsWrongAfter {T : Type 0} (IsGood : T → Type 0) (columns : T → List (List ℕ)) (texts : List (List ℕ))
    (count : ℕ) : Type 0 where
  pub example : T
  pub good : IsGood example
  pub agrees : take count texts ≡ take count (columns example)
  pub «none» : (x : T) → IsGood x → take (suc count) texts ≡ take (suc count) (columns x) → ⊥
