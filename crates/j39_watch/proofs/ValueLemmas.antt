-- The last values of all origins, with one more.
use Rattle.j39_watch.proofs.Common.{◌≡◌, ◌∷◌, ◌++◌, [], false, ℕ, List, Some, None, map, refl, slice_get, slice_set, ap, ◌∙◌, list_any, place_in, Origin, same_true, stands, ValueRecord, Entry}
use Rattle.j39_watch.proofs.LatestLemmas.{latest_more, latest_one}
use Rattle.j39_reports.proofs.OriginRowLemmas as rows
use Rattle.j39_watch.specs.LatestSoFar.{AreLatest, HasFollowed, LatestRow, latest_begun, latest_grown, latest_over, latest_row}
use Rattle.j39_reports.specs.RowModels.{entry_at}
use Rattle.j39_reports.specs.Summary.{firsts, have_one_origin}
use Rattle.j39_watch.specs.declared.latest.Latest.{Latest}

abbrev key : LatestRow → Origin
key row = row.origin

pub no_values : (pairs : List (Origin × Latest)) → pairs ≡ [] → AreLatest pairs []
unfolding firsts
no_values pairs none = ap (map latest_row) none

-- one value more of an origin that has one
pub follows : (k o : Origin) (old new : Latest) (stamp : ℕ) (value : ValueRecord) (pairs pairs' : List (Origin × Latest)) (at : ℕ) (before : List Entry)
    → HasFollowed old stamp value new → place_in pairs k ≡ Some at → slice_get pairs at ≡ Some (o, old)
    → pairs' ≡ slice_set pairs at (o, new) → AreLatest pairs before → AreLatest pairs' (before ++ entry_at k stamp value ∷ [])
follows k o old new stamp value pairs pairs' at before follow place here is are =
    let own : o ≡ k = same_true o k (stands pairs at (o, old) k here place) in
    rows.grows key latest_begun latest_grown latest_over (λ f es. refl) latest_one latest_more latest_row (λ p. refl)
    (entry_at k stamp value) o old new pairs pairs' at before
    (follow o ∙ ap (λ x. latest_grown (latest_row (o, old)) (entry_at x stamp value)) own) place here is are

-- the first value of an origin
pub begins : (k : Origin) (new : Latest) (stamp : ℕ) (value : ValueRecord) (pairs pairs' : List (Origin × Latest)) (before : List Entry)
    → latest_row (k, new) ≡ latest_begun (entry_at k stamp value) → place_in pairs k ≡ None
    → pairs' ≡ pairs ++ (k, new) ∷ [] → AreLatest pairs before → AreLatest pairs' (before ++ entry_at k stamp value ∷ [])
begins k new stamp value pairs pairs' before begin nowhere is are =
    rows.begins key latest_begun latest_grown latest_over (λ f es. refl) latest_one latest_more latest_row (λ p. refl)
    (entry_at k stamp value) k new pairs pairs' before begin nowhere is are

-- an origin that has none
pub is_new : (k : Origin) (stamp : ℕ) (value : ValueRecord) (pairs : List (Origin × Latest)) (before : List Entry) → place_in pairs k ≡ None
    → AreLatest pairs before → list_any (have_one_origin (entry_at k stamp value)) before ≡ false
is_new k stamp value pairs before nowhere are =
    rows.is_new key latest_begun latest_grown latest_over (λ f es. refl) latest_one latest_more latest_row (λ p. refl)
    (entry_at k stamp value) pairs before nowhere are
