-- The text of the lamps, a lamp after another.
use Rattle.std.specs.Prelude.{◌++◌, ◌∷◌, ℕ, List, []}

-- a word behind what stands before it, with a comma (44) between
abbrev pub behind : List ℕ → List ℕ → List ℕ
behind [] word = word
behind (x ∷ before) word = (x ∷ before) ++ 44 ∷ word

-- a word, or none
abbrev pub with_words : List ℕ → List (List ℕ) → List ℕ
with_words before [] = before
with_words before (word ∷ more) = behind before word
