-- What is left of logs that are read one behind the other.
use Rattle.std.specs.Prelude.{ℕ, Bool, true, false, List, [], ◌∷◌, Option, None, Some, map, reverse}
use Rattle.std.specs.Io.KnownBytes.{Consumes, Keeps, prepend_known}
use Rattle.j39_io.specs.Chars.{newline}
use Rattle.j39_cli.specs.Joined.{ended}
use Rattle.j39_cli.specs.declared.joined.Joined.{Joined}

-- the rest of the log that is read, of which a line was open before or not, and the logs behind it
abbrev pub left_of : Bool → Option (List ℕ) → List (Option (List ℕ)) → Option (List ℕ)
left_of before text [] = text
left_of before None (next ∷ rest) = None
left_of before (Some text) (next ∷ rest) = prepend_known (ended before text) (left_of false next rest)

-- between two logs a newline is put where a line was open
abbrev pub GoesOn : Bool → Option (List ℕ) → Option (List ℕ) → Type 0
GoesOn true old new = Consumes old new (newline ∷ [])
GoesOn false old new = Keeps old new

module _ {R : Type 0} where
  abbrev pub current_of : Joined R → R
  current_of joined = joined.current

  abbrev pub later_of : Joined R → List R
  later_of joined = joined.later.items

  abbrev pub has_fault : Joined R → Bool
  has_fault joined = joined.has_failed

  -- what is left, by what tells it of each
  abbrev pub left_in : (R → Option (List ℕ)) → Joined R → Option (List ℕ)
  left_in remaining joined =
      left_of joined.is_open (remaining joined.current) (map remaining (reverse joined.later.items))
