-- What a visitor makes of sightings: those that it has taken, and where it stops.
use Rattle.std.specs.Prelude.{◌≡◌, ◌∷◌, ◌++◌, ℕ, List}
use Rattle.j39_groups.specs.declared.row.Row.{Row}
use Rattle.j39_groups.specs.declared.value.Value.{Value}
use Rattle.j39_groups.specs.Models.{row_record, value_of}
use Rattle.j39_groups.specs.Sightings.{SightingRecord, sightings_at, told}

-- what a row says of a payload of its group
abbrev pub row_sightings : List ℕ → Row → List SightingRecord
row_sightings bytes row = sightings_at bytes (row_record row)

-- the number of a parameter with a value that a table gives
abbrev pub visited : ℕ → Value → SightingRecord
visited spn value = told (record { spn = spn; value = value_of value })

-- behind whatever sightings it has taken, it has taken these too
abbrev pub TakesMore : {S V : Type 0} → (S → V → List SightingRecord → Type 0) → V → V → List SightingRecord → Type 0
TakesMore {S} has_taken old new sightings = (subject : S) (before : List SightingRecord)
    → has_taken subject old before → has_taken subject new (before ++ sightings)

-- it stops at one of these sightings, and has taken those before it
pub record StopsAt (stops : List SightingRecord → SightingRecord → Type 0)
    (before sightings : List SightingRecord) : Type 0 where
  pub taken : List SightingRecord
  pub at : SightingRecord
  pub rest : List SightingRecord
  pub sightings_are : sightings ≡ taken ++ (at ∷ rest)
  pub stopped : stops (before ++ taken) at

-- it stops among these sightings, whatever it has taken before them
abbrev pub StopsAmong : {S V : Type 0} → (S → V → List SightingRecord → Type 0)
    → (S → List SightingRecord → SightingRecord → Type 0) → V → List SightingRecord → Type 0
StopsAmong {S} has_taken stops old sightings = (subject : S) (before : List SightingRecord)
    → has_taken subject old before → StopsAt (stops subject) before sightings

-- ---- a visitor with what it writes to

-- it has taken so much with its medium
abbrev pub with_medium : {S V M : Type 0} → (S → V → M → List SightingRecord → Type 0) → S → V × M
    → List SightingRecord → Type 0
with_medium has_taken subject (visitor, medium) sightings = has_taken subject visitor medium sightings

-- behind whatever sightings it has taken, it has taken these too
abbrev pub Takes : {S V M : Type 0} → (S → V → M → List SightingRecord → Type 0) → V → M → V → M
    → List SightingRecord → Type 0
Takes has_taken old medium new medium' sightings =
    TakesMore (with_medium has_taken) (old, medium) (new, medium') sightings

-- it stops among these sightings, and leaves itself and the medium so
abbrev pub Stops : {S V M : Type 0} → (S → V → M → List SightingRecord → Type 0)
    → (S → List SightingRecord → SightingRecord → V → M → Type 0) → V → M → V → M → List SightingRecord → Type 0
Stops has_taken has_stopped old medium new medium' sightings =
    StopsAmong (with_medium has_taken) (λ subject before at. has_stopped subject before at new medium')
    (old, medium) sightings
