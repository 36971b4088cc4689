-- The rows as the code keeps them, with one value more.
use Rattle.j39_reports.proofs.Common.{◌≡◌, ◌∷◌, ◌++◌, [], ℕ, false, List, Some, None, map, refl, ap, ◌∙◌, list_any, slice_get, slice_set, place_in, Origin, same_true, stands, ValueRecord, Entry}
use Rattle.j39_reports.proofs.OriginRowLemmas as origins
use Rattle.j39_reports.proofs.RowLemmas.{begun_row, row_over, row_over-more}
use Rattle.j39_reports.specs.RowsSoFar.{AreRowsOf, HasGrown, begun, grown}
use Rattle.j39_reports.specs.RowModels.{entry_at, row_shown}
use Rattle.j39_reports.specs.Summary.{Row, firsts, have_one_origin, origin_of}
use Rattle.j39_reports.specs.declared.summaries.statistics.Statistics.{Statistics}

abbrev key : Row → Origin
key row = origin_of row.first

pub no_rows : (rows : List (Origin × Statistics)) → rows ≡ [] → AreRowsOf rows []
unfolding firsts
no_rows rows none = ap (map row_shown) none

-- one value more of an origin that has a row
pub grows : (k o : Origin) (old new : Statistics) (stamp : ℕ) (value : ValueRecord) (rows rows' : List (Origin × Statistics)) (at : ℕ) (before : List Entry)
    → HasGrown old stamp value new → place_in rows k ≡ Some at → slice_get rows at ≡ Some (o, old)
    → rows' ≡ slice_set rows at (o, new) → AreRowsOf rows before → AreRowsOf rows' (before ++ entry_at k stamp value ∷ [])
grows k o old new stamp value rows rows' at before grow place here is are =
    let own : o ≡ k = same_true o k (stands rows at (o, old) k here place) in
    origins.grows key begun grown row_over (λ f es. refl) begun_row row_over-more row_shown (λ p. refl)
    (entry_at k stamp value) o old new rows rows' at before
    (grow o ∙ ap (λ x. grown (row_shown (o, old)) (entry_at x stamp value)) own) place here is are

-- the first value of an origin
pub begins : (k : Origin) (new : Statistics) (stamp : ℕ) (value : ValueRecord) (rows rows' : List (Origin × Statistics)) (before : List Entry)
    → row_shown (k, new) ≡ begun (entry_at k stamp value) → place_in rows k ≡ None
    → rows' ≡ rows ++ (k, new) ∷ [] → AreRowsOf rows before → AreRowsOf rows' (before ++ entry_at k stamp value ∷ [])
begins k new stamp value rows rows' before begin nowhere is are =
    origins.begins key begun grown row_over (λ f es. refl) begun_row row_over-more row_shown (λ p. refl)
    (entry_at k stamp value) k new rows rows' before begin nowhere is are

-- an origin that has no row has no entry
pub is_new : (k : Origin) (stamp : ℕ) (value : ValueRecord) (rows : List (Origin × Statistics)) (before : List Entry) → place_in rows k ≡ None
    → AreRowsOf rows before → list_any (have_one_origin (entry_at k stamp value)) before ≡ false
is_new k stamp value rows before nowhere are =
    origins.is_new key begun grown row_over (λ f es. refl) begun_row row_over-more row_shown (λ p. refl)
    (entry_at k stamp value) rows before nowhere are
