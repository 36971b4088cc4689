-- The words and the names of a table.
use Rattle.std.specs.Prelude.{◌≢◌, ◌<◌, ◌≤◌, ℕ, List, All, length, slice_index}
use Rattle.j39_io.specs.Chars.{space, delete}

-- one byte or more, each above the space and no delete
abbrev pub IsWord : List ℕ → Type 0
IsWord text = (0 < length text) × All (λ b. (space < b) × (b ≢ delete)) text

-- one byte or more, no space first, no control byte
abbrev pub IsName : List ℕ → Type 0
IsName text = (0 < length text) × (slice_index text 0 ≢ space) × All (λ b. (space ≤ b) × (b ≢ delete)) text
