-- The first row of a group.
use Rattle.std.proofs.Common.{◌≡◌, ◌≢◌, ◌∙◌, ◌==◌, ◌<◌, ◌+◌, ℕ, List, [], ◌∷◌, Some, None, ap, inl, inr, length, take, get_or, refl, sym}
use Rattle.std.specs.Prelude.{slice_get}
use Rattle.std.specs.List.{filter_map}
use Rattle.std.proofs.lemmas.Bool.{cases_Bool, eq-eqb, ne_eqb}
use Rattle.j39_groups.specs.Names.{group_at}
use Rattle.j39_groups.specs.Readings.{group_rows}
use Rattle.j39_groups.specs.Row.{RowRecord}
use Rattle.j39_groups.proofs.SlotLemmas.{first_found, none_more}

group_here : (pgn : ℕ) (row : RowRecord) → row.pgn ≡ pgn → group_at pgn row ≡ Some row.group
group_here pgn row is = rw (eq-eqb row.pgn pgn is) refl

group_elsewhere : (pgn : ℕ) (row : RowRecord) → row.pgn ≢ pgn → group_at pgn row ≡ None
group_elsewhere pgn row other = rw (ne_eqb row.pgn pgn other) refl

-- a row of the group behind others gives its name
pub first_name : {X : Type 0} (view : X → RowRecord) (pgn : ℕ) (xs : List X) (i : ℕ) (d : X) → i < length xs
    → filter_map (λ x. group_at pgn (view x)) (take i xs) ≡ [] → (view (get_or xs i d)).pgn ≡ pgn
    → Some (view (get_or xs i d)).group ≡ slice_get (filter_map (λ x. group_at pgn (view x)) xs) 0
first_name view pgn xs i d below none here =
    sym (first_found (λ x. group_at pgn (view x)) xs i d _ below none (group_here pgn (view (get_or xs i d)) here))

pub no_name : {X : Type 0} (view : X → RowRecord) (pgn : ℕ) (xs : List X) (i : ℕ) (d : X) → i < length xs
    → filter_map (λ x. group_at pgn (view x)) (take i xs) ≡ [] → (view (get_or xs i d)).pgn ≢ pgn
    → filter_map (λ x. group_at pgn (view x)) (take (i + 1) xs) ≡ []
no_name view pgn xs i d below none other =
    none_more (λ x. group_at pgn (view x)) xs i d below none (group_elsewhere pgn (view (get_or xs i d)) other)

-- what a table calls a group its rows of the group do
pub group_found : (table : List RowRecord) (pgn : ℕ) → filter_map (group_at pgn) (group_rows pgn table) ≡ filter_map (group_at pgn) table
group_found [] pgn = refl
group_found (row ∷ table) pgn = elim (cases_Bool (row.pgn == pgn)) [
  | inl here ↦
      let kept : group_rows pgn (row ∷ table) ≡ row ∷ group_rows pgn table = rw here refl in
      let named : group_at pgn row ≡ Some row.group = rw here refl in
      ap (filter_map (group_at pgn)) kept ∙ (rw named (ap (λ names. row.group ∷ names) (group_found table pgn)))
  | inr other ↦ rw other (group_found table pgn)
]
