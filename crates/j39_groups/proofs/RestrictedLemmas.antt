-- The rows of some parameters, row by row.
use Rattle.std.proofs.Common.{◌≡◌, ◌<◌, ◌+◌, ◌==◌, ℕ, zero, suc, arith, List, [], ◌∷◌, ◌++◌, Bool, true, false, length, take, get_or, map, ap, ◌∙◌, append-nil, inl, inr, sym, refl}
use Rattle.std.specs.Prelude.{◌&&◌, filter, not}
use Rattle.std.specs.List.{flat_map, list_any}
use Rattle.std.proofs.lemmas.Bool.{and_parts, cases_Bool}
use Rattle.std.proofs.lemmas.List.{map-append, take_more}
use Rattle.std.proofs.lemmas.List.Elements.{filter-append}
use Rattle.j39_groups.proofs.ReadLemmas.{any_by_filter}
use Rattle.j39_groups.proofs.TableLemmas.{filter_unlisted}
use Rattle.j39_groups.specs.Readings.{HaveSameGroups, is_among, is_network_group, is_reported_in, readings_at, readings_in, rows_of_spns, values_at}
use Rattle.j39_groups.specs.Row.{RowRecord}
use Rattle.j39_groups.specs.Value.{ReadingRecord, ValueRecord}

pub onto : {X : Type 0} (xs ys zs : List X) → xs ≡ ys → xs ++ zs ≡ ys ++ zs
onto xs ys zs same = ap (λ front. front ++ zs) same

-- one row more, seen as f sees it
next_row : {X Y : Type 0} (f : X → Y) (p : Y → Bool) (rows : List X) (i : ℕ) (d : X) → i < length rows
    → filter p (map f (take (i + 1) rows)) ≡ filter p (map f (take i rows)) ++ filter p (f (get_or rows i d) ∷ [])
next_row f p rows i d below =
    ap (λ xs. filter p (map f xs)) (take_more rows i d below) ∙ ap (filter p) (map-append f (take i rows) (get_or rows i d ∷ []))
    ∙ filter-append p (map f (take i rows)) (f (get_or rows i d) ∷ [])

pub row_kept : {X Y : Type 0} (f : X → Y) (p : Y → Bool) (rows : List X) (i : ℕ) (d : X) → i < length rows → p (f (get_or rows i d)) ≡ true
    → filter p (map f (take (i + 1) rows)) ≡ filter p (map f (take i rows)) ++ (f (get_or rows i d) ∷ [])
row_kept f p rows i d below passes = next_row f p rows i d below ∙ (rw passes refl)

pub row_left_out : {X Y : Type 0} (f : X → Y) (p : Y → Bool) (rows : List X) (i : ℕ) (d : X) → i < length rows → p (f (get_or rows i d)) ≡ false
    → filter p (map f (take (i + 1) rows)) ≡ filter p (map f (take i rows))
row_left_out f p rows i d below fails = next_row f p rows i d below ∙ (rw fails (append-nil (filter p (map f (take i rows)))))

-- where one passes, some do
pub some_kept : {X Y : Type 0} (f : X → Y) (p : Y → Bool) (rows : List X) (i : ℕ) (d : X) → i < length rows → p (f (get_or rows i d)) ≡ true
    → 0 < length (filter p (map f rows))
some_kept f p [] i d below passes = absurd (omega (arith, below))
some_kept f p (row ∷ rows) zero d below passes = rw passes (omega arith)
some_kept f p (row ∷ rows) (suc i) d below passes = elim (cases_Bool (p (f row))) [
  | inl first ↦ rw first (omega arith)
  | inr other ↦ rw other (some_kept f p rows i d (omega (arith, below)) passes)
]

-- ---- what is read

-- the readings of a row are all of its parameter
all_kept : (spns : List ℕ) (spn : ℕ) (values : List ValueRecord) → is_among spns spn ≡ true
    → filter (λ (r : ReadingRecord). is_among spns r.spn) (map (λ value. record { spn = spn; value = value }) values) ≡ map (λ value. record { spn = spn; value = value }) values
all_kept spns spn [] h = refl
all_kept spns spn (v ∷ values) h = rw h (ap (λ rs. record { spn = spn; value = v } ∷ rs) (all_kept spns spn values h))

none_kept : (spns : List ℕ) (spn : ℕ) (values : List ValueRecord) → is_among spns spn ≡ false
    → filter (λ (r : ReadingRecord). is_among spns r.spn) (map (λ value. record { spn = spn; value = value }) values) ≡ []
none_kept spns spn [] h = refl
none_kept spns spn (v ∷ values) h = rw h (none_kept spns spn values h)

-- row by row of the group
by_rows : (spns : List ℕ) (table : List RowRecord) (pgn : ℕ) (bytes : List ℕ)
    → flat_map (readings_at bytes) (filter (λ row. row.pgn == pgn) (rows_of_spns spns table))
    ≡ filter (λ r. is_among spns r.spn) (flat_map (readings_at bytes) (filter (λ row. row.pgn == pgn) table))
by_rows spns [] pgn bytes = refl
by_rows spns (row ∷ table) pgn bytes =
    let more = by_rows spns table pgn bytes in
    let all = flat_map (readings_at bytes) (filter (λ row. row.pgn == pgn) table) in
    elim (cases_Bool (is_among spns row.spn)) [
      | inl kept ↦ elim (cases_Bool (row.pgn == pgn)) [
        | inl here ↦ rw (kept, here) (
            ap (λ rs. readings_at bytes row ++ rs) more ∙ ap (λ rs. rs ++ filter (λ r. is_among spns r.spn) all) (sym (all_kept spns row.spn (values_at bytes row.field) kept))
            ∙ sym (filter-append (λ (r : ReadingRecord). is_among spns r.spn) (readings_at bytes row) all)
            )
        | inr other ↦ rw (kept, other) more
      ]
      | inr left ↦ elim (cases_Bool (row.pgn == pgn)) [
        | inl here ↦ rw (left, here) (
            more ∙ ap (λ rs. rs ++ filter (λ r. is_among spns r.spn) all) (sym (none_kept spns row.spn (values_at bytes row.field) left))
            ∙ sym (filter-append (λ (r : ReadingRecord). is_among spns r.spn) (readings_at bytes row) all)
            )
        | inr other ↦ rw (left, other) more
      ]
    ]

pub restricted_readings : (spns : List ℕ) (table : List RowRecord) (pgn : ℕ) (bytes : List ℕ)
    → readings_in (rows_of_spns spns table) pgn bytes ≡ filter (λ r. is_among spns r.spn) (readings_in table pgn bytes)
unfolding readings_in
restricted_readings spns table pgn bytes = by_rows spns table pgn bytes

-- ---- which groups are reported

any_of_fewer : {X : Type 0} (p q : X → Bool) (xs : List X) → list_any q (filter p xs) ≡ true → list_any q xs ≡ true
any_of_fewer p q [] h = h
any_of_fewer p q (x ∷ xs) h = elim (cases_Bool (q x)) [
  | inl here ↦ rw here refl
  | inr other ↦ elim (cases_Bool (p x)) [
    | inl kept ↦ rw other (any_of_fewer p q xs (rw (kept, other) at h))
    | inr left ↦ rw other (any_of_fewer p q xs (rw left at h))
  ]
]

pub restricted_reported : (spns : List ℕ) (table : List RowRecord) (pgn : ℕ) → is_reported_in (rows_of_spns spns table) pgn ≡ true → is_reported_in table pgn ≡ true
unfolding is_reported_in
restricted_reported spns table pgn h =
    let parts = and_parts _ _ h in
    let free : not (is_network_group pgn) ≡ true = parts.0 in
    let listed : list_any (λ row. row.pgn == pgn) table ≡ true = any_of_fewer (λ (row : RowRecord). is_among spns row.spn) (λ row. row.pgn == pgn) table parts.1 in
    ap (λ b. b && list_any (λ row. row.pgn == pgn) table) free ∙ listed

-- a group that isn't reported, and isn't the network's, has no readings
pub unreported_readings : (table : List RowRecord) (pgn : ℕ) (bytes : List ℕ) → is_network_group pgn ≡ false → is_reported_in table pgn ≡ false → readings_in table pgn bytes ≡ []
unfolding is_reported_in readings_in
unreported_readings table pgn bytes free unlisted =
    let none : list_any (λ row. row.pgn == pgn) table ≡ false = sym (ap (λ b. not b && list_any (λ row. row.pgn == pgn) table) free) ∙ unlisted in
    ap (flat_map (readings_at bytes)) (filter_unlisted (λ row. row.pgn == pgn) table none)

-- ---- each group's rows alone count

pub same_readings : (these those : List RowRecord) → HaveSameGroups these those → (pgn : ℕ) (bytes : List ℕ) → readings_in these pgn bytes ≡ readings_in those pgn bytes
unfolding readings_in
same_readings these those h pgn bytes = ap (flat_map (readings_at bytes)) (h.same pgn)

pub same_reported : (these those : List RowRecord) → HaveSameGroups these those → (pgn : ℕ) → is_reported_in these pgn ≡ is_reported_in those pgn
unfolding is_reported_in
same_reported these those h pgn =
    ap (λ listed. not (is_network_group pgn) && listed)
    (sym (any_by_filter (λ row. row.pgn == pgn) these) ∙ ap (λ rows. not (length rows == 0)) (h.same pgn) ∙ any_by_filter (λ row. row.pgn == pgn) those)
