-- The elements of a list, each once, in the order in which they come first.
use Rattle.std.specs.Prelude.{List, [], ◌∷◌, Bool, not, filter}

unfoldable pub firsts : {A : Type 0} → (A → A → Bool) → List A → List A
firsts same [] = []
firsts same (x ∷ xs) = x ∷ filter (λ y. not (same y x)) (firsts same xs)
