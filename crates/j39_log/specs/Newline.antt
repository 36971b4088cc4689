-- The first line of bytes.
use Rattle.std.specs.Prelude.{◌≡◌, ◌==◌, ℕ, List, ◌∷◌, ◌++◌, Bool, not}
use Rattle.j39_io.specs.Chars.{newline}
use Rattle.j39_log.specs.Log.{HasNoNewline}

abbrev pub is_no_newline : ℕ → Bool
is_no_newline b = not (b == newline)

-- a line, its newline, and what follows
pub record TakesLine (bytes line rest : List ℕ) : Type 0 where
  pub whole : HasNoNewline line
  pub bytes_are : bytes ≡ line ++ (newline ∷ rest)
