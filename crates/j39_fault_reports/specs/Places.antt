-- What is kept for each address of the controller that spoke there last, by the NAME that it was under.
use Rattle.std.specs.Option.{option_or}
use Rattle.std.specs.Prelude.{◌≡◌, ◌∷◌, [], ◌<◌, ◌≤◌, ℕ, zero, suc, Bool, false, List, Option, Some, None, if◌then◌else◌, length, slice_index_or, slice_set}
use Rattle.j39_listen.specs.Heard.{Hearing}
use Rattle.j39_fault_reports.specs.Spoken.{is_same_name}

-- of messages, the last first, this is kept, if what is of the last and those before it is
abbrev pub IsKept : {R : Type 0} → (R → Option ℕ) → (Hearing → List Hearing → R → Type 0) → List Hearing → Option R → Type 0
IsKept named IsOf [] place = place ≡ None
IsKept {R} named IsOf (m ∷ before) place = (kept : R) × (place ≡ Some kept) × (named kept ≡ m.name) × IsOf m before kept

abbrev pub is_of : {R : Type 0} → (R → Option ℕ) → Option ℕ → Option R → Bool
is_of named name None = false
is_of named name (Some kept) = is_same_name (named kept) name

abbrev pub place_at : {R : Type 0} → List (Option R) → ℕ → Option R
place_at places a = slice_index_or places a None

-- what is kept of a NAME, at whichever place below n
unfoldable pub kept_below : {R : Type 0} → (R → Option ℕ) → List (Option R) → Option ℕ → ℕ → Option R
kept_below named places name zero = None
kept_below named places name (suc n) =
    if is_of named name (place_at places n) then place_at places n else kept_below named places name n

-- what is kept of who sends under a NAME from an address: there of the NAME; or else elsewhere, or there of another or none
abbrev pub kept_before : {R : Type 0} → (R → Option ℕ) → List (Option R) → Option ℕ → ℕ → Option R
kept_before named places name a =
    if is_of named name (place_at places a) then place_at places a
    else option_or (kept_below named places name 256) (place_at places a)

-- unless it is of this NAME
abbrev pub left_by : {R : Type 0} → (R → Option ℕ) → Option ℕ → Option R → Option R
left_by named name None = None
left_by named name (Some kept) = if is_same_name (named kept) name then None else Some kept

-- of another place than that where the NAME speaks, and where this was kept
abbrev pub left_for : {R : Type 0} → (R → Option ℕ) → Option ℕ → Option R → Option R → Option R
left_for named name here place = if is_of named name here then place else left_by named name place

-- the places below n are left by a NAME, and the rest are as they were
pub record AreLeft {R : Type 0} (named : R → Option ℕ) (name : Option ℕ) (old : List (Option R)) (n : ℕ) (new : List (Option R)) : Type 0 where
  pub long : length new ≡ length old
  pub left : (a : ℕ) → a < n → place_at new a ≡ left_by named name (place_at old a)
  pub rest : (a : ℕ) → n ≤ a → place_at new a ≡ place_at old a

-- who is under this NAME speaks from this address, and this is kept of it
pub record HaveTaken {R : Type 0} (named : R → Option ℕ) (old : List (Option R)) (name : Option ℕ) (a : ℕ) (kept : R) (new : List (Option R)) : Type 0 where
  pub places : length old ≡ 256 → length new ≡ 256
  pub here : length old ≡ 256 → place_at new a ≡ Some kept
  pub elsewhere : length old ≡ 256 → (b : ℕ) → b < 256 → (b ≡ a → ⊥) → place_at new b ≡ left_for named name (place_at old a) (place_at old b)

-- what is kept of who sends under a NAME from an address was taken out, to be put in again at this address
pub record IsTakenOut {R : Type 0} (named : R → Option ℕ) (old : List (Option R)) (name : Option ℕ) (a : ℕ) (before : Option R) (mid : List (Option R)) : Type 0 where
  pub before_is : before ≡ kept_before named old name a
  pub puts : (kept : R) (new : List (Option R)) → new ≡ slice_set mid a (Some kept) → HaveTaken named old name a kept new
  pub none : before ≡ None → place_at old a ≡ None
