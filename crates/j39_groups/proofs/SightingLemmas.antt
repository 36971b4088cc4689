-- The readings and the absent numbers among what a payload says.
use Rattle.std.proofs.Common.{◌≡◌, ◌++◌, ◌∷◌, [], ℕ, List, Option, append-nil, map, refl, sym, ap, ap₂, ◌∙◌}
use Rattle.std.specs.List.{filter_map, flat_map}
use Rattle.std.proofs.lemmas.List.Concat.{flat_map-cons}
use Rattle.std.proofs.lemmas.List.Elements.{filter_map-append}
use Rattle.j39_groups.specs.Readings.{group_rows, readings_at, readings_in}
use Rattle.j39_groups.specs.Row.{RowRecord}
use Rattle.j39_groups.specs.Sightings.{absences_at, absences_in, absent, absent_by, absent_in, sightings_at, sightings_in, told, told_by, told_in}
use Rattle.j39_groups.specs.Value.{ReadingRecord}

told_told : (rs : List ReadingRecord) → told_in (map told rs) ≡ rs
told_told [] = refl
told_told (r ∷ rs) = ap (λ ys. r ∷ ys) (told_told rs)

told_absent : (spns : List ℕ) → told_in (map absent spns) ≡ []
told_absent [] = refl
told_absent (n ∷ spns) = told_absent spns

absent_told : (rs : List ReadingRecord) → absent_in (map told rs) ≡ []
absent_told [] = refl
absent_told (r ∷ rs) = absent_told rs

absent_absent : (spns : List ℕ) → absent_in (map absent spns) ≡ spns
absent_absent [] = refl
absent_absent (n ∷ spns) = ap (λ ys. n ∷ ys) (absent_absent spns)

-- what is kept of what each gives
filter_map-flat_map : {X Y Z : Type 0} (g : Y → Option Z) (f : X → List Y) (h : X → List Z) → ((x : X) → filter_map g (f x) ≡ h x)
    → (xs : List X) → filter_map g (flat_map f xs) ≡ flat_map h xs
filter_map-flat_map g f h each [] = refl
filter_map-flat_map g f h each (x ∷ xs) =
    ap (filter_map g) (flat_map-cons f x xs) ∙ filter_map-append g (f x) (flat_map f xs)
    ∙ ap₂ (λ ys zs. ys ++ zs) (each x) (filter_map-flat_map g f h each xs) ∙ sym (flat_map-cons h x xs)

told_at : (bytes : List ℕ) (row : RowRecord) → told_in (sightings_at bytes row) ≡ readings_at bytes row
unfolding sightings_at
told_at bytes row =
    let rs = readings_at bytes row in
    let spns = absences_at bytes row in
    filter_map-append told_by (map told rs) (map absent spns) ∙ ap₂ (λ xs ys. xs ++ ys) (told_told rs) (told_absent spns) ∙ append-nil rs

absent_at : (bytes : List ℕ) (row : RowRecord) → absent_in (sightings_at bytes row) ≡ absences_at bytes row
unfolding sightings_at
absent_at bytes row =
    let rs = readings_at bytes row in
    let spns = absences_at bytes row in
    filter_map-append absent_by (map told rs) (map absent spns) ∙ ap₂ (λ xs ys. xs ++ ys) (absent_told rs) (absent_absent spns)

pub told_are : (table : List RowRecord) (pgn : ℕ) (bytes : List ℕ) → told_in (sightings_in table pgn bytes) ≡ readings_in table pgn bytes
unfolding sightings_in readings_in
told_are table pgn bytes = filter_map-flat_map told_by (sightings_at bytes) (readings_at bytes) (told_at bytes) (group_rows pgn table)

pub absent_are : (table : List RowRecord) (pgn : ℕ) (bytes : List ℕ) → absent_in (sightings_in table pgn bytes) ≡ absences_in table pgn bytes
unfolding sightings_in absences_in
absent_are table pgn bytes = filter_map-flat_map absent_by (sightings_at bytes) (absences_at bytes) (absent_at bytes) (group_rows pgn table)
