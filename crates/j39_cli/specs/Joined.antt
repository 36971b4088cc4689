-- Logs that are read one behind the other, as one.
use Rattle.std.specs.Prelude.{◌∷◌, ◌++◌, ◌==◌, ℕ, Bool, false, not, List, [], Option, None, Some, if◌then◌else◌, option_map}
use Rattle.j39_io.specs.Chars.{newline}

-- whether a line is open behind this text: its last byte is no newline. Of no bytes, as it was before
abbrev pub is_open : Bool → List ℕ → Bool
is_open before [] = before
is_open before (byte ∷ rest) = is_open (not (byte == newline)) rest

-- the text, with a newline where a line is open behind it
abbrev pub ended : Bool → List ℕ → List ℕ
ended before text = if is_open before text then text ++ newline ∷ [] else text

-- the texts one behind the other: a newline is put behind each but the last, where it has bytes and ends in none
abbrev pub joined : List (List ℕ) → List ℕ
joined [] = []
joined (text ∷ []) = text
joined (text ∷ next ∷ rest) = ended false text ++ joined (next ∷ rest)

-- the texts, where each is known
abbrev pub all_known : List (Option (List ℕ)) → Option (List (List ℕ))
all_known [] = Some []
all_known (None ∷ rest) = None
all_known (Some text ∷ rest) = option_map (λ texts. text ∷ texts) (all_known rest)

abbrev pub joined_known : List (Option (List ℕ)) → Option (List ℕ)
joined_known texts = option_map joined (all_known texts)
