-- What is kept of each origin of some entries, with one entry more.
use Rattle.j39_reports.proofs.Common.{◌≡◌, ◌<◌, ◌||◌, ℕ, zero, suc, Bool, true, false, List, [], ◌∷◌, ◌++◌, Some, None, append-nil, arith, get_or, is_some, map, refl, slice_get, slice_set, sym, ap, ap₂, ◌∙◌, true≢false, unwrap_or, filter, if◌then◌else◌, list_any, keys_of, both_ways, map-append, filter-append, position-Some, is_same, place_in, Origin, same_self, same_true, stands, filter_unlisted, Entry}
use Rattle.j39_frame.proofs.PlaceLemmas.{absent}
use Rattle.j39_reports.specs.Summary.{AreApart, firsts, have_one_origin, origin_of, values_like}
use Rattle.j39_reports.proofs.FirstLemmas.{first_of_each, firsts-more, firsts_apart, if_new}
use Rattle.j39_reports.proofs.OriginLemmas as entries

-- what is kept, with the entry in the row of its origin or in a new one
unfoldable pub bumped : {R : Type 0} → (R → Origin) → (Entry → R) → (R → Entry → R) → Entry → List R → List R
bumped key begun grown e [] = begun e ∷ []
bumped key begun grown e (r ∷ rows) =
    if is_same (origin_of e) (key r) then grown r e ∷ rows else r ∷ bumped key begun grown e rows

module _ {R : Type 0} (key : R → Origin) (begun : Entry → R) (grown : R → Entry → R) (over : Entry → List Entry → R)
    (key_over : (f : Entry) (es : List Entry) → key (over f es) ≡ origin_of f) (over_one : (e : Entry) → over e (e ∷ []) ≡ begun e)
    (over_more : (f : Entry) (es : List Entry) (e : Entry) → over f (es ++ e ∷ []) ≡ grown (over f es) e) where
  -- of the origin of an entry
  abbrev pub row_for : List Entry → Entry → R
  row_for es f = over f (values_like f es)

  -- of each
  abbrev pub rows_for : List Entry → List R
  rows_for es = map (row_for es) (firsts es)

  abbrev more : Entry → List R → List R
  more e rows = bumped key begun grown e rows

  values-more : (f : Entry) (es : List Entry) (e : Entry)
      → values_like f (es ++ e ∷ []) ≡ values_like f es ++ filter (have_one_origin f) (e ∷ [])
  values-more f es e = filter-append (have_one_origin f) es (e ∷ [])

  row_same : (es : List Entry) (e f : Entry) → have_one_origin e f ≡ false → row_for (es ++ e ∷ []) f ≡ row_for es f
  row_same es e f other =
      let turned = entries.same_sym f e ∙ other in
      let none : filter (have_one_origin f) (e ∷ []) ≡ [] = rw turned refl in
      ap (over f) (values-more f es e ∙ ap (λ xs. values_like f es ++ xs) none ∙ append-nil (values_like f es))

  row_grown : (es : List Entry) (e f : Entry) → have_one_origin e f ≡ true → row_for (es ++ e ∷ []) f ≡ grown (row_for es f) e
  row_grown es e f one =
      let turned = entries.same_sym f e ∙ one in
      let own : filter (have_one_origin f) (e ∷ []) ≡ e ∷ [] = rw turned refl in
      ap (over f) (values-more f es e ∙ ap (λ xs. values_like f es ++ xs) own) ∙ over_more f (values_like f es) e

  any_like : (e f : Entry) (fs : List Entry) → have_one_origin e f ≡ true → list_any (have_one_origin e) fs ≡ list_any (have_one_origin f) fs
  any_like e f fs one = ap (λ (p : Entry → Bool). list_any p fs) (λ i g. entries.same_like e f g one i)

  same_rows : (es : List Entry) (e : Entry) (fs : List Entry) → list_any (have_one_origin e) fs ≡ false → map (row_for (es ++ e ∷ [])) fs ≡ map (row_for es) fs
  same_rows es e [] none = refl
  same_rows es e (f ∷ fs) none = by (have_one_origin e f) refl (same_rows es e fs)
    where
      by : (b : Bool) → have_one_origin e f ≡ b → (list_any (have_one_origin e) fs ≡ false → map (row_for (es ++ e ∷ [])) fs ≡ map (row_for es) fs)
          → map (row_for (es ++ e ∷ [])) (f ∷ fs) ≡ map (row_for es) (f ∷ fs)
      by true one rest = absurd (both_ways _ none (rw one refl))
      by false other rest = ap₂ (λ r rs. r ∷ rs) (row_same es e f other) (rest (rw other at none))

  bumped_rows : (es : List Entry) (e : Entry) (fs : List Entry) → AreApart fs
      → more e (map (row_for es) fs) ≡ map (row_for (es ++ e ∷ [])) fs ++ (if list_any (have_one_origin e) fs then [] else begun e ∷ [])
  unfolding bumped
  bumped_rows es e [] apart = refl
  bumped_rows es e (f ∷ fs) apart = by (have_one_origin e f) refl (bumped_rows es e fs apart.1)
    where
      by : (b : Bool) → have_one_origin e f ≡ b
          → more e (map (row_for es) fs) ≡ map (row_for (es ++ e ∷ [])) fs ++ (if list_any (have_one_origin e) fs then [] else begun e ∷ [])
          → (if is_same (origin_of e) (key (row_for es f)) then grown (row_for es f) e ∷ map (row_for es) fs else row_for es f ∷ more e (map (row_for es) fs))
          ≡ map (row_for (es ++ e ∷ [])) (f ∷ fs) ++ (if list_any (have_one_origin e) (f ∷ fs) then [] else begun e ∷ [])
      by true one rest =
          let others = any_like e f fs one ∙ apart.0 in
          let here : is_same (origin_of e) (key (row_for es f)) ≡ true = ap (is_same (origin_of e)) (key_over f (values_like f es)) ∙ one in
          rw here (rw one (ap₂ (λ r rs. r ∷ rs) (sym (row_grown es e f one)) (sym (same_rows es e fs others) ∙ sym (append-nil (map (row_for (es ++ e ∷ [])) fs)))))
      by false other rest =
          let here : is_same (origin_of e) (key (row_for es f)) ≡ false = ap (is_same (origin_of e)) (key_over f (values_like f es)) ∙ other in
          rw here (rw other (ap₂ (λ r rs. r ∷ rs) (sym (row_same es e f other)) rest))

  new_row : (es : List Entry) (e : Entry) → list_any (have_one_origin e) es ≡ false → row_for (es ++ e ∷ []) e ≡ begun e
  new_row es e none =
      let self = entries.same_self e in
      let last : filter (have_one_origin e) (e ∷ []) ≡ e ∷ [] = rw self refl in
      let values : values_like e (es ++ e ∷ []) ≡ e ∷ [] =
      values-more e es e ∙ ap₂ (λ xs ys. xs ++ ys) (filter_unlisted (have_one_origin e) es none) last in
      ap (over e) values ∙ over_one e

  new_rows : (es : List Entry) (e : Entry) → map (row_for (es ++ e ∷ [])) (if_new e es) ≡ (if list_any (have_one_origin e) es then [] else begun e ∷ [])
  new_rows es e = by (list_any (have_one_origin e) es) refl
    where
      by : (b : Bool) → list_any (have_one_origin e) es ≡ b → map (row_for (es ++ e ∷ [])) (if_new e es) ≡ (if list_any (have_one_origin e) es then [] else begun e ∷ [])
      by true some = rw some refl
      by false none = rw none (ap (λ r. r ∷ []) (new_row es e none))

  rows-more : (es : List Entry) (e : Entry) → rows_for (es ++ e ∷ []) ≡ more e (rows_for es)
  rows-more es e =
      let row = row_for (es ++ e ∷ []) in
      ap (map row) (firsts-more es e) ∙ map-append row (firsts es) (if_new e es)
      ∙ ap (λ rs. map row (firsts es) ++ rs) (new_rows es e ∙ ap (λ b. if b then [] else begun e ∷ []) (sym (first_of_each e es)))
      ∙ sym (bumped_rows es e (firsts es) (firsts_apart es))

  -- ---- as the code keeps them

  module _ {D : Type 0} (shown : Origin × D → R) (key_shown : (p : Origin × D) → key (shown p) ≡ p.0) where
    -- the pairs are those of the entries
    abbrev pub AreKeptRows : List (Origin × D) → List Entry → Type 0
    AreKeptRows pairs es = map shown pairs ≡ rows_for es

    same_key : (e : Entry) (p : Origin × D) (b : Bool) → is_same (origin_of e) p.0 ≡ b → is_same (origin_of e) (key (shown p)) ≡ b
    same_key e p b same = ap (is_same (origin_of e)) (key_shown p) ∙ same

    found_bumped : (e : Entry) (o : Origin) (old new : D) → shown (o, new) ≡ grown (shown (o, old)) e → o ≡ origin_of e
        → (rows : List (Origin × D)) (at : ℕ) → slice_get rows at ≡ Some (o, old)
        → ((j : ℕ) → j < at → is_same (origin_of e) (get_or (keys_of rows) j (origin_of e)) ≡ false)
        → map shown (slice_set rows at (o, new)) ≡ more e (map shown rows)
    unfolding bumped
    found_bumped e o old new grows own [] at here before = absurd (true≢false (sym (ap is_some here)))
    found_bumped e o old new grows own (p ∷ rows) zero here before =
        let is : p ≡ (o, old) = ap (λ r. unwrap_or r p) here in
        let one = same_key e p true (ap (λ (q : Origin × D). is_same (origin_of e) q.0) is ∙ ap (is_same (origin_of e)) own ∙ same_self (origin_of e)) in
        rw one (ap (λ r. r ∷ map shown rows) (grows ∙ ap (λ q. grown (shown q) e) (sym is)))
    found_bumped e o old new grows own (p ∷ rows) (suc at) here before =
        let other = same_key e p false (before 0 (omega arith)) in
        rw other (ap (λ rs. shown p ∷ rs) (found_bumped e o old new grows own rows at here (λ j b. before (suc j) (omega arith))))

    absent_bumped : (e : Entry) (k : Origin) (new : D) → shown (k, new) ≡ begun e
        → (rows : List (Origin × D)) → list_any (is_same (origin_of e)) (keys_of rows) ≡ false
        → map shown (rows ++ (k, new) ∷ []) ≡ more e (map shown rows)
    unfolding bumped
    absent_bumped e k new begins [] none = ap (λ r. r ∷ []) begins
    absent_bumped e k new begins (p ∷ rows) none = by (is_same (origin_of e) p.0) refl (absent_bumped e k new begins rows)
      where
        by : (b : Bool) → is_same (origin_of e) p.0 ≡ b
            → (list_any (is_same (origin_of e)) (keys_of rows) ≡ false → map shown (rows ++ (k, new) ∷ []) ≡ more e (map shown rows))
            → map shown ((p ∷ rows) ++ (k, new) ∷ []) ≡ more e (map shown (p ∷ rows))
        by true one rest = absurd (true≢false (rw one at none))
        by false same rest =
            let other = same_key e p false same in
            rw other (ap (λ rs. shown p ∷ rs) (rest (rw same at none)))

    -- one value more of an origin that has a row
    pub grows : (e : Entry) (o : Origin) (old new : D) (rows rows' : List (Origin × D)) (at : ℕ) (before : List Entry)
        → shown (o, new) ≡ grown (shown (o, old)) e → place_in rows (origin_of e) ≡ Some at → slice_get rows at ≡ Some (o, old)
        → rows' ≡ slice_set rows at (o, new) → AreKeptRows rows before → AreKeptRows rows' (before ++ e ∷ [])
    grows e o old new rows rows' at before grow place here is are =
        let k = origin_of e in
        let own : o ≡ k = same_true o k (stands rows at (o, old) k here place) in
        let first = (position-Some (is_same k) (keys_of rows) at k place).2 in
        ap (map shown) is ∙ found_bumped e o old new grow own rows at here first ∙ ap (more e) are ∙ sym (rows-more before e)

    -- the first value of an origin
    pub begins : (e : Entry) (k : Origin) (new : D) (rows rows' : List (Origin × D)) (before : List Entry)
        → shown (k, new) ≡ begun e → place_in rows (origin_of e) ≡ None
        → rows' ≡ rows ++ (k, new) ∷ [] → AreKeptRows rows before → AreKeptRows rows' (before ++ e ∷ [])
    begins e k new rows rows' before begin nowhere is are =
        ap (map shown) is ∙ absent_bumped e k new begin rows (absent rows (origin_of e) nowhere) ∙ ap (more e) are ∙ sym (rows-more before e)

    -- an origin that has no row has no entry
    pub is_new : (e : Entry) (rows : List (Origin × D)) (before : List Entry) → place_in rows (origin_of e) ≡ None
        → AreKeptRows rows before → list_any (have_one_origin e) before ≡ false
    is_new e rows before nowhere are =
        sym (listed before) ∙ ap (list_any (λ r. is_same (origin_of e) (key r))) (sym are) ∙ not_listed rows (absent rows (origin_of e) nowhere)
      where
        listed : (es : List Entry) → list_any (λ r. is_same (origin_of e) (key r)) (rows_for es) ≡ list_any (have_one_origin e) es
        listed es = by (firsts es) ∙ first_of_each e es
          where
            by : (fs : List Entry) → list_any (λ r. is_same (origin_of e) (key r)) (map (row_for es) fs) ≡ list_any (have_one_origin e) fs
            by [] = refl
            by (f ∷ fs) = ap₂ (λ a b. a || b) (ap (is_same (origin_of e)) (key_over f (values_like f es))) (by fs)

        not_listed : (rows : List (Origin × D)) → list_any (is_same (origin_of e)) (keys_of rows) ≡ false
            → list_any (λ r. is_same (origin_of e) (key r)) (map shown rows) ≡ false
        not_listed [] none = refl
        not_listed (p ∷ rows) none = by (is_same (origin_of e) p.0) refl (not_listed rows)
          where
            by : (b : Bool) → is_same (origin_of e) p.0 ≡ b
                → (list_any (is_same (origin_of e)) (keys_of rows) ≡ false → list_any (λ r. is_same (origin_of e) (key r)) (map shown rows) ≡ false)
                → list_any (λ r. is_same (origin_of e) (key r)) (map shown (p ∷ rows)) ≡ false
            by true one rest = absurd (true≢false (rw one at none))
            by false same rest =
                let other = same_key e p false same in
                rw other (rest (rw same at none))
