-- A visitor takes sighting after sighting.
use Rattle.std.proofs.Common.{Bool, false, ◌-◌, ◌≡◌, ◌<◌, ◌+◌, ℕ, suc, List, [], ◌∷◌, ◌++◌, true, length, take, drop, get_or, map, sym, ap, ◌∙◌, subst, append-nil, append_assoc, drop-cons, take-append-drop, refl}
use Rattle.std.specs.List.{flat_map}
use Rattle.std.specs.Prelude.{◌&&◌, if◌then◌else◌}
use Rattle.std.proofs.lemmas.List.{map-append, take_more}
use Rattle.std.proofs.lemmas.List.Concat.{flat_map-cons}
use Rattle.std.proofs.lemmas.Grind.{flat_map-append}
use Rattle.j39_groups.specs.Lines.{text_readings}
use Rattle.j39_groups.specs.Models.{row_record}
use Rattle.j39_groups.specs.Readings.{values_at}
use Rattle.j39_groups.specs.Row.{RowRecord}
use Rattle.j39_groups.specs.Sightings.{SightingRecord, absent, holds_number, is_absent, sightings_at, told}
use Rattle.j39_groups.specs.Value.{ValueRecord}
use Rattle.j39_groups.specs.declared.field.Field.TheVariants.{Texts}
use Rattle.j39_groups.specs.declared.row.Row.{Row}
use Rattle.j39_groups.specs.Visits.{StopsAmong, TakesMore}

pub takes_none : {S V : Type 0} (has_taken : S → V → List SightingRecord → Type 0) (v : V) → TakesMore has_taken v v []
takes_none has_taken v = λ s before h. subst (has_taken s v) (sym (append-nil before)) h

pub stops_at : {S V : Type 0} (has_taken : S → V → List SightingRecord → Type 0) (wants : S → List SightingRecord → SightingRecord → Type 0) (v : V) (r : SightingRecord)
    → ((s : S) (before : List SightingRecord) → has_taken s v before → wants s before r) → StopsAmong has_taken wants v (r ∷ [])
stops_at has_taken wants v r wanted = λ s before h. record {
  taken = [];
  at = r;
  rest = [];
  sightings_are = refl;
  stopped = subst (λ rs. wants s rs r) (sym (append-nil before)) (wanted s before h);
}

regroup : (done taken : List SightingRecord) (r : SightingRecord) (rest more : List SightingRecord)
    → done ++ ((taken ++ (r ∷ rest)) ++ more) ≡ (done ++ taken) ++ (r ∷ (rest ++ more))
regroup done taken r rest more = ap (λ rs. done ++ rs) (append_assoc taken (r ∷ rest) more) ∙ sym (append_assoc done taken (r ∷ (rest ++ more)))

-- it stops among these readings, which stand among others
pub stops_within : {S V : Type 0} (has_taken : S → V → List SightingRecord → Type 0) (wants : S → List SightingRecord → SightingRecord → Type 0) (a b : V)
    (done here rest all : List SightingRecord) → all ≡ done ++ (here ++ rest) → TakesMore has_taken a b done → StopsAmong has_taken wants b here
    → StopsAmong has_taken wants a all
stops_within has_taken wants a b done here rest all is takes stops = λ s before h.
    let w = stops s (before ++ done) (takes s before h) in
    record {
      taken = done ++ w.taken;
      at = w.at;
      rest = w.rest ++ rest;
      sightings_are = is ∙ ap (λ rs. done ++ (rs ++ rest)) w.sightings_are ∙ regroup done w.taken w.at w.rest rest;
      stopped = subst (λ rs. wants s rs w.at) (append_assoc before done w.taken) w.stopped;
    }

-- ---- lists of rows

pub map-at : {X Y : Type 0} (f : X → Y) (xs : List X) (i : ℕ) (d : X) → i < length xs
    → map f xs ≡ map f (take i xs) ++ ((f (get_or xs i d) ∷ []) ++ map f (drop (suc i) xs))
map-at f xs i d below =
    let cut : xs ≡ take i xs ++ (get_or xs i d ∷ drop (suc i) xs) = sym (take-append-drop i xs) ∙ ap (λ ys. take i xs ++ ys) (drop-cons xs i d below) in
    ap (map f) cut ∙ map-append f (take i xs) (get_or xs i d ∷ drop (suc i) xs)

pub flat_map-next : {X Y : Type 0} (f : X → List Y) (xs : List X) (i : ℕ) (d : X) → i < length xs
    → flat_map f (take (i + 1) xs) ≡ flat_map f (take i xs) ++ f (get_or xs i d)
flat_map-next f xs i d below =
    ap (flat_map f) (take_more xs i d below) ∙ flat_map-append f (take i xs) (get_or xs i d ∷ [])
    ∙ ap (λ ys. flat_map f (take i xs) ++ ys) (flat_map-cons f (get_or xs i d) [] ∙ append-nil (f (get_or xs i d)))

-- ---- what one row says

module _ (bytes : List ℕ) (row : RowRecord) where
  -- it has one value
  pub sees_value : (value : ValueRecord) → value ∷ [] ≡ values_at bytes row.field → told (record { spn = row.spn; value = value }) ∷ [] ≡ sightings_at bytes row
  unfolding is_absent sightings_at
  sees_value value one = rw (← one) (by (holds_number bytes row.field))
    where
      by : (b : Bool) → told (record { spn = row.spn; value = value }) ∷ []
          ≡ told (record { spn = row.spn; value = value }) ∷ map absent (if b && false then row.spn ∷ [] else [])
      by true = refl
      by false = refl

  -- it has none, and its bits are there
  pub sees_absent : holds_number bytes row.field ≡ true → values_at bytes row.field ≡ [] → absent row.spn ∷ [] ≡ sightings_at bytes row
  unfolding is_absent sightings_at
  sees_absent holds none = rw (none, holds) refl

  -- it has none, and they are not
  pub sees_nothing : holds_number bytes row.field ≡ false → values_at bytes row.field ≡ [] → [] ≡ sightings_at bytes row
  unfolding is_absent sightings_at
  sees_nothing holds none = rw (none, holds) refl

-- what has texts has readings alone
pub sees_texts : (bytes : List ℕ) (row : Row) (byte count : ℕ) → row.field ≡ Texts byte count
    → map told (text_readings row.spn (drop (byte - 1) bytes) count) ≡ sightings_at bytes (row_record row)
unfolding sightings_at is_absent holds_number values_at
sees_texts bytes row byte count is = rw is (sym (append-nil (map told (text_readings row.spn (drop (byte - 1) bytes) count))))
