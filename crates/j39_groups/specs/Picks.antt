-- One of many readings.
use Rattle.std.specs.Prelude.{◌≡◌, ◌+◌, ℕ, List, Result, Ok, Err, Some, length, slice_get}
use Rattle.j39_groups.specs.Models.{reading_of}
use Rattle.j39_groups.specs.Value.{ReadingRecord}
use Rattle.j39_groups.specs.declared.value.Reading.{Reading}

-- the reading behind so many of these, or how many more than all of these they are
abbrev pub IsPicked : List ReadingRecord → ℕ → Result Reading ℕ → Type 0
IsPicked readings left (Ok reading) = slice_get readings left ≡ Some (reading_of reading)
IsPicked readings left (Err rest) = left ≡ length readings + rest
