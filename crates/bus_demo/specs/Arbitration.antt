-- Who sends next: a bus arbitrates by the identifier, and the lowest one wins.
use Rattle.std.specs.Prelude.{◌≡◌, ◌≤◌, ◌<◌, ℕ, List, get_or, length, Option, Some, None}
use Rattle.j39_frame.specs.Identifier.{id_raw}
use Rattle.j39_frame.specs.declared.identifier.Id.{Id}

-- of the first n wishes, the one at this place is this identifier; none is lower, and those before it are higher
pub record IsLowestOf (wishes : List (Option Id)) (n place : ℕ) (id : Id) : Type 0 where
  pub inside : place < n
  pub there : get_or wishes place None ≡ Some id
  pub lowest : (k : ℕ) (other : Id) → k < n → get_or wishes k None ≡ Some other → id_raw id ≤ id_raw other
  pub first : (k : ℕ) (other : Id) → k < place → get_or wishes k None ≡ Some other → id_raw id < id_raw other

-- none of the first n wishes is an identifier
abbrev pub NoneOf : List (Option Id) → ℕ → Type 0
NoneOf wishes n = (k : ℕ) → k < n → get_or wishes k None ≡ None

-- the wish at this place is an identifier; nobody wishes to send a lower one, and nobody before it the same one
abbrev pub IsLowest : List (Option Id) → ℕ → Type 0
IsLowest wishes place = (id : Id) × IsLowestOf wishes (length wishes) place id

-- nobody wishes to send
abbrev pub NoneWishes : List (Option Id) → Type 0
NoneWishes wishes = NoneOf wishes (length wishes)
