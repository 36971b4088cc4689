-- What is remembered of the sides of values.
use Rattle.std.specs.List.{between}
use Rattle.std.specs.Prelude.{◌≡◌, ◌<◌, ◌≤◌, ◌==◌, ◌&&◌, ◌||◌, ℕ, Bool, List, Option, None, Some, bytes_eq, drop, if◌then◌else◌, nat_lt, not, slice_index_or, true}
use Rattle.j39_groups.specs.Names.{group_name_in, name_in, state_in}
use Rattle.j39_groups.specs.Row.{RowRecord}
use Rattle.j39_groups.specs.Value.{ValueRecord}
use Rattle.j39_reports.specs.declared.sides.Behind.{Behind}
use Rattle.j39_reports.specs.declared.sides.GroupSide.{GroupSide}
use Rattle.j39_reports.specs.declared.sides.Sides.{Sides}

-- this stands behind a value of this unit, or of none
pub record IsBehind (behind : Option (List ℕ) → List ℕ) (unit : Option (List ℕ)) (b : Behind) : Type 0 where
  pub few : 48 ≤ b.from
  pub inside : b.from ≤ 96
  pub text_is : between b.from 96 b.text ≡ behind unit

-- these are the sides of the values of their parameter by this table, none of whose states has a name
pub record Suits (before : ℕ → Option (List ℕ) → List ℕ) (behind : Option (List ℕ) → List ℕ) (groups : List RowRecord) (sides : Sides)
    : Type 0 where
  pub before_inside : sides.before_from ≤ 96
  pub unit_inside : sides.unit_from ≤ 16
  pub before_is : between sides.before_from 96 sides.before ≡ before sides.spn (name_in groups sides.pgn sides.spn)
  pub is_behind : IsBehind behind (Some (drop sides.unit_from sides.unit)) sides.behind
  pub stateless : (value : ValueRecord) → state_in groups sides.pgn sides.spn value ≡ None

abbrev pub AreKnown : (ℕ → Option (List ℕ) → List ℕ) → (Option (List ℕ) → List ℕ) → List RowRecord → List Sides → Type 0
AreKnown before behind groups all = (place : ℕ) (d : Sides) → place < 256 → (slice_index_or all place d).is_ready ≡ true
    → Suits before behind groups (slice_index_or all place d)

-- the sides of a parameter of a group can be learned here: its place is free, or has them for another unit
abbrev pub is_open_to : Sides → ℕ → ℕ → List ℕ → Bool
is_open_to sides pgn spn unit =
    if sides.is_ready && (sides.spn == spn) && (sides.pgn == pgn)
    then nat_lt 16 sides.unit_from || not (bytes_eq (drop sides.unit_from sides.unit) unit)
    else (sides.pgn == 4294967295)

-- this is said of its group by this table
pub record SuitsGroup (of_group : ℕ → Option (List ℕ) → List ℕ) (groups : List RowRecord) (side : GroupSide) : Type 0 where
  pub room : 48 ≤ side.from
  pub inside : side.from ≤ 96
  pub text_is : drop side.from side.text ≡ of_group side.pgn (group_name_in groups side.pgn)

abbrev pub AreKnownGroups : (ℕ → Option (List ℕ) → List ℕ) → List RowRecord → List GroupSide → Type 0
AreKnownGroups of_group groups all = (place : ℕ) (d : GroupSide) → place < 64 → (slice_index_or all place d).is_ready ≡ true
    → SuitsGroup of_group groups (slice_index_or all place d)
