-- How many fields a line has.
use Rattle.std.specs.Prelude.{◌≡◌, ◌≢◌, ℕ, List, [], ◌∷◌}
use Rattle.j39_log.specs.declared.fields.Shape.{Shape}
use Rattle.j39_log.specs.declared.fields.Shape.TheVariants.{Blank, Three, Odd}
use Rattle.j39_log.specs.Line.{IsFlags}

-- none, three with a flag or none after them, or any others
abbrev pub HasShape : Shape → List (List ℕ) → Type 0
HasShape Blank fields = fields ≡ []
HasShape (Three a b c) fields = (flags : List (List ℕ)) × IsFlags flags × (fields ≡ a.now ∷ b.now ∷ c.now ∷ flags)
HasShape Odd fields = (fields ≢ []) × ((a b c : List ℕ) (flags : List (List ℕ)) → IsFlags flags
    → fields ≢ a ∷ b ∷ c ∷ flags)
