-- The fields of a line: first the grammar, then the function that computes them.
use Rattle.std.specs.Prelude.{◌≡◌, ◌<◌, ◌==◌, ℕ, List, [], ◌∷◌, ◌++◌, length, if◌then◌else◌, false}
use Rattle.j39_io.specs.Chars.{space}
use Rattle.std.specs.List.{AllByRecursion}

abbrev pub IsSpaces : List ℕ → Type 0
IsSpaces bs = AllByRecursion (λ b. b ≡ space) bs

-- one byte or more, and no space
abbrev pub IsField : List ℕ → Type 0
IsField bs = (0 < length bs) × AllByRecursion (λ b. b == space ≡ false) bs

-- nothing, or a space first
abbrev pub IsAfterField : List ℕ → Type 0
IsAfterField [] = Unit {0}
IsAfterField (b ∷ bs) = b ≡ space

-- spaces, a field, and what follows
pub record TakesField (text field rest : List ℕ) : Type 0 where
  pub spaces : List ℕ
  pub text_is : text ≡ spaces ++ (field ++ rest)
  pub spaces_are : IsSpaces spaces
  pub field_is : IsField field
  pub rest_is : IsAfterField rest

-- the text is these fields with spaces between, before and after them
abbrev pub IsSpaced : List (List ℕ) → List ℕ → Type 0
IsSpaced [] text = IsSpaces text
IsSpaced (f ∷ fs) text = (rest : List ℕ) × TakesField text f rest × IsSpaced fs rest

-- ---- the fields of a text, computed

-- b before the fields of bs: it begins a field, or goes before the first
abbrev pub with_byte : ℕ → List ℕ → List (List ℕ) → List (List ℕ)
with_byte b [] fs = (b ∷ []) ∷ fs
with_byte b (c ∷ bs) [] = (b ∷ []) ∷ []
with_byte b (c ∷ bs) (f ∷ fs) = if c == space then (b ∷ []) ∷ f ∷ fs else (b ∷ f) ∷ fs

-- the longest runs of bytes other than spaces
unfoldable pub fields_in : List ℕ → List (List ℕ)
fields_in [] = []
fields_in (b ∷ bs) = if b == space then fields_in bs else with_byte b bs (fields_in bs)
