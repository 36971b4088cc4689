-- Lists of values in one word.
use Rattle.std.specs.Prelude.{◌==◌, ◌≤◌, ℕ, List, All, length, map}
use Rattle.std.specs.List.{slice_split}

abbrev pub comma : ℕ
comma = 0x2C

-- the words between the commas of a text
abbrev pub words_in : List ℕ → List (List ℕ)
words_in text = slice_split (λ b. b == comma) text

-- 1 to 32 such words
pub record IsListOf (Is : List ℕ → Type 0) (text : List ℕ) : Type 0 where
  pub few : length (words_in text) ≤ 32
  pub all : All Is (words_in text)

-- what they stand for
abbrev pub values_in : {T : Type 0} → (List ℕ → T) → List ℕ → List T
values_in value text = map value (words_in text)
