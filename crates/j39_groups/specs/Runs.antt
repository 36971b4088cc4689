-- Where the rows of a group are: the run of a place has all its rows, and no others.
use Rattle.std.specs.Prelude.{◌≡◌, ◌+◌, ◌-◌, ◌*◌, ◌/◌, ◌%◌, ◌<◌, ◌≤◌, ◌==◌, ℕ, List, Bool, not, true, nat_lt, if◌then◌else◌, take, drop, length, slice_index_or}
use Rattle.std.specs.List.{list_all}
use Rattle.j39_groups.specs.declared.row.Row.{Row}
use Rattle.j39_groups.specs.declared.runs.Run.{Run}

-- in each of four pages one for each PF, and behind all these one for each group of PF 240 and more: the low byte of the others is 0
abbrev pub place_of : ℕ → ℕ
place_of pgn =
    if nat_lt (pgn / 256 % 256) 240 then pgn / 256 % 1024 else
    1024 + pgn / 65536 % 4 * 4096 + pgn % 4096

abbrev pub is_here : ℕ → Row → Bool
is_here place row = place_of row.pgn == place

abbrev pub is_elsewhere : ℕ → Row → Bool
is_elsewhere place row = not (is_here place row)

-- the places of a run's rows, from the first up to the end
abbrev pub bounds_of : Run → ℕ × ℕ
bounds_of run = if nat_lt run.last run.first then (0, 0) else (run.first, run.last + 1)

-- the rows from the first up to the end are those of a place, and no others
pub record IsRun (rows : List Row) (place : ℕ) (first end : ℕ) : Type 0 where
  pub ordered : first ≤ end
  pub inside : end ≤ length rows
  pub filled : 0 < end → first < end
  pub own : list_all (is_here place) (take (end - first) (drop first rows)) ≡ true
  pub none_before : list_all (is_elsewhere place) (take first rows) ≡ true
  pub none_behind : list_all (is_elsewhere place) (drop end rows) ≡ true

abbrev pub AreRuns : List Run → List Row → Type 0
AreRuns runs rows = (place : ℕ) (d : Run) → place < 17408
    → IsRun rows place (bounds_of (slice_index_or runs place d)).0 (bounds_of (slice_index_or runs place d)).1
