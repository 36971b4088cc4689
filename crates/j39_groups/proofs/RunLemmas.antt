-- The runs of the places.
use Rattle.std.proofs.Common.{◌≡◌, ◌<◌, ◌≤◌, ◌+◌, ◌-◌, ◌∙◌, ◌++◌, ℕ, zero, suc, ◌⊎◌, List, [], ◌∷◌, Bool, true, false, length, take, drop, get_or, refl, sym, ap, subst, arith, inl, inr, append-nil, drop-drop, length-append, take-append-drop, take-take}
use Rattle.std.specs.Prelude.{◌==◌, filter, nat_lt, not, replicate, slice_set}
use Rattle.std.specs.List.{list_all, list_any}
use Rattle.std.proofs.lemmas.Bool.{and_parts, cases_Bool, eq-eqb, eqb-true, eqb-false, false≢true, ltb-false, ltb-true, ne_eqb, not-true}
use Rattle.std.proofs.lemmas.Grind.{get_or-set_at}
use Rattle.std.proofs.lemmas.List.{drop-append-le, drop_all, get_or-drop, get_or-replicate, get_or-set_other, get_or-take, length-drop, length-take, take-append-le, take_all, take_more}
use Rattle.std.proofs.lemmas.List.Sums.{AllPass-from_list_all}
use Rattle.j39_groups.specs.Rows.{StandTogether, is_listed_group, is_row}
use Rattle.j39_groups.proofs.RowLemmas.{all_part, row_at, row_is}
use Rattle.std.proofs.lemmas.List.Elements.{filter-append}
use Rattle.std.proofs.lemmas.List.Folds.{list_all-append}
use Rattle.j39_groups.specs.declared.row.Row.{Row}
use Rattle.j39_groups.specs.declared.runs.Run.{Run}
use Rattle.j39_groups.specs.Runs.{AreRuns, IsRun, bounds_of, is_elsewhere, is_here, place_of}

cases_zero : (n : ℕ) → (n ≡ 0) ⊎ (0 < n)
cases_zero zero = inl refl
cases_zero (suc n) = inr (omega arith)

-- no row of a group lies elsewhere
none_elsewhere : (pgn : ℕ) (rows : List Row) → list_all (is_elsewhere (place_of pgn)) rows ≡ true → filter (λ row. row.pgn == pgn) rows ≡ []
none_elsewhere pgn [] all = refl
none_elsewhere pgn (row ∷ rows) all =
    let both = and_parts _ _ all in
    let other : (row.pgn == pgn) ≡ false = ne_eqb _ _ (λ same.
    let here : (place_of row.pgn == place_of pgn) ≡ true = eq-eqb (place_of row.pgn) (place_of pgn) (ap place_of same) in
    absurd (false≢true (sym (ap not here) ∙ both.0))) in
    rw other (none_elsewhere pgn rows both.1)

-- so all of them lie in the run of its place
all_sought : (rows : List Row) (pgn : ℕ) (low high : ℕ) → IsRun rows (place_of pgn) low high
    → filter (λ row. row.pgn == pgn) (take (high - low) (drop low rows)) ≡ filter (λ row. row.pgn == pgn) rows
all_sought rows pgn low high is =
    let p : Row → Bool = λ row. row.pgn == pgn in
    let n = high - low in
    let front : filter p (take low rows) ≡ [] = none_elsewhere pgn (take low rows) is.none_before in
    let to_end : low + n ≡ high = omega (arith, is.ordered) in
    let back : filter p (drop n (drop low rows)) ≡ [] =
    ap (filter p) (drop-drop n low rows ∙ ap (λ k. drop k rows) to_end) ∙ none_elsewhere pgn (drop high rows) is.none_behind in
    sym (
    ap (filter p) (sym (take-append-drop low rows)) ∙ filter-append p (take low rows) (drop low rows)
    ∙ ap (λ found. found ++ filter p (drop low rows)) front
    ∙ ap (filter p) (sym (take-append-drop n (drop low rows))) ∙ filter-append p (take n (drop low rows)) (drop n (drop low rows))
    ∙ ap (λ found. filter p (take n (drop low rows)) ++ found) back ∙ append-nil (filter p (take n (drop low rows)))
    )

-- what no group of a place but this one has
abbrev Alone : ℕ → ℕ → Type 0
Alone pgn place = (other : ℕ) → is_listed_group pgn ≡ true → is_listed_group other ≡ true → place_of other ≡ place → other ≡ pgn

all_pass : (xs : List Row) (pgn place : ℕ) → is_listed_group pgn ≡ true → Alone pgn place → list_all is_row xs ≡ true → list_all (is_here place) xs ≡ true
    → filter (λ row. row.pgn == pgn) xs ≡ xs
all_pass [] pgn place listed alone sound here = refl
all_pass (x ∷ xs) pgn place listed alone sound here =
    let rows = and_parts _ _ sound in
    let places = and_parts _ _ here in
    let same : x.pgn ≡ pgn = alone x.pgn listed (row_is x rows.0).listed (eqb-true _ _ places.0) in
    let passes : (x.pgn == pgn) ≡ true = eq-eqb _ _ same in
    rw passes (ap (λ ys. x ∷ ys) (all_pass xs pgn place listed alone rows.1 places.1))

none_passes : (xs : List Row) (pgn : ℕ) → is_listed_group pgn ≡ false → list_all is_row xs ≡ true → filter (λ row. row.pgn == pgn) xs ≡ []
none_passes [] pgn free sound = refl
none_passes (x ∷ xs) pgn free sound =
    let rows = and_parts _ _ sound in
    let other : (x.pgn == pgn) ≡ false = ne_eqb _ _ (λ same. false≢true (sym free ∙ ap is_listed_group (sym same) ∙ (row_is x rows.0).listed)) in
    rw other (none_passes xs pgn free rows.1)

of_first : (xs : List Row) (pgn place : ℕ) → Alone pgn place → list_all is_row xs ≡ true → list_all (is_here place) xs ≡ true
    → list_any (λ row. row.pgn == pgn) (take 1 xs) ≡ true → xs ≡ filter (λ row. row.pgn == pgn) xs
of_first [] pgn place alone sound here first = refl
of_first (x ∷ xs) pgn place alone sound here first = elim (cases_Bool (x.pgn == pgn)) [
  | inl same ↦
      let listed = ap is_listed_group (sym (eqb-true _ _ same)) ∙ (row_is x (and_parts _ _ sound).0).listed in
      sym (all_pass (x ∷ xs) pgn place listed alone sound here)
  | inr other ↦ absurd (false≢true (sym (rw other refl) ∙ first))
]

not_first : (xs : List Row) (pgn place : ℕ) → Alone pgn place → list_all is_row xs ≡ true → list_all (is_here place) xs ≡ true
    → list_any (λ row. row.pgn == pgn) (take 1 xs) ≡ false → [] ≡ filter (λ row. row.pgn == pgn) xs
not_first [] pgn place alone sound here first = refl
not_first (x ∷ xs) pgn place alone sound here first = elim (cases_Bool (is_listed_group pgn)) [
  | inl listed ↦
      let same : x.pgn ≡ pgn = alone x.pgn listed (row_is x (and_parts _ _ sound).0).listed (eqb-true _ _ (and_parts _ _ here).0) in
      let passes : (x.pgn == pgn) ≡ true = eq-eqb _ _ same in
      absurd (false≢true (sym first ∙ (rw passes refl)))
  | inr free ↦ sym (none_passes (x ∷ xs) pgn free sound)
]

-- a run is the rows of the group of its first row
run_is : (rows : List Row) (pgn place : ℕ) (low high : ℕ) → place ≡ place_of pgn → IsRun rows place low high → list_all is_row rows ≡ true → Alone pgn place
    → list_any (λ row. row.pgn == pgn) (take 1 (take (high - low) (drop low rows))) ≡ true
    → take (high - low) (drop low rows) ≡ filter (λ row. row.pgn == pgn) rows
run_is rows pgn place low high at is sound alone first =
    of_first _ pgn place alone (all_part is_row rows low (high - low) sound) is.own first
    ∙ all_sought rows pgn low high (subst (λ p. IsRun rows p low high) at is)

-- and has none of another
run_is_not : (rows : List Row) (pgn place : ℕ) (low high : ℕ) → place ≡ place_of pgn → IsRun rows place low high → list_all is_row rows ≡ true → Alone pgn place
    → list_any (λ row. row.pgn == pgn) (take 1 (take (high - low) (drop low rows))) ≡ false
    → [] ≡ filter (λ row. row.pgn == pgn) rows
run_is_not rows pgn place low high at is sound alone first =
    not_first _ pgn place alone (all_part is_row rows low (high - low) sound) is.own first
    ∙ all_sought rows pgn low high (subst (λ p. IsRun rows p low high) at is)

-- the run of a place that stands for no row yet
no_run : (place : ℕ) → IsRun [] place 0 0
no_run place = record {
  ordered = omega arith;
  inside = omega arith;
  filled = λ some. absurd (omega (arith, some));
  own = refl;
  none_before = refl;
  none_behind = refl;
}

pub no_runs : (run : Run) → bounds_of run ≡ (0, 0) → AreRuns (replicate 17408 run) []
no_runs run none place d below =
    let at = get_or-replicate 17408 place run d below in
    rw at (subst (λ (b : ℕ × ℕ). IsRun [] place b.0 b.1) (sym none) (no_run place))

all_of_one : {X : Type 0} (p : X → Bool) (x : X) (xs : List X) → p x ≡ true → list_all p xs ≡ true → list_all p (xs ++ (x ∷ [])) ≡ true
all_of_one p x xs here all = list_all-append p xs (x ∷ []) ∙ (rw (all, here) refl)

-- a row behind the others, of another place
run_kept : (rows : List Row) (row : Row) (place : ℕ) (low high : ℕ) → is_elsewhere place row ≡ true → IsRun rows place low high → IsRun (rows ++ (row ∷ [])) place low high
run_kept rows row place low high other is =
    let len = length-append rows (row ∷ []) in
    let inside = is.inside in
    let ordered = is.ordered in
    let behind = drop-append-le low rows (row ∷ []) (omega (arith, ordered, inside)) in
    record {
      ordered = is.ordered;
      inside = omega (arith, len, inside);
      filled = is.filled;
      own = ap (λ rs. list_all (is_here place) (take (high - low) rs)) behind
          ∙ ap (list_all (is_here place)) (take-append-le (high - low) (drop low rows) (row ∷ []) (simp length-drop (omega (arith, ordered, inside)))) ∙ is.own;
      none_before = ap (list_all (is_elsewhere place)) (take-append-le low rows (row ∷ []) (let ordered = is.ordered in omega (arith, ordered, inside))) ∙ is.none_before;
      none_behind = ap (list_all (is_elsewhere place)) (drop-append-le high rows (row ∷ []) inside) ∙ all_of_one (is_elsewhere place) row (drop high rows) other is.none_behind;
    }

-- the last row of a run
last_here : (rows : List Row) (place : ℕ) (low high : ℕ) (d : Row) → IsRun rows place low high → 0 < high → place_of (get_or rows (high - 1) d).pgn ≡ place
last_here rows place low high d is some =
    let filled = is.filled some in
    let inside = is.inside in
    let n = high - low in
    let part = take n (drop low rows) in
    let below : n - 1 < length part = simp (length-take, length-drop) (omega (arith, filled, inside)) in
    let at : get_or part (n - 1) d ≡ get_or rows (high - 1) d =
    get_or-take n (drop low rows) (n - 1) d (omega (arith, filled)) ∙ get_or-drop low rows (n - 1) d ∙ ap (λ k. get_or rows k d) (omega (arith, filled)) in
    eqb-true _ _ (subst (λ row. is_here place row ≡ true) at (AllPass-from_list_all (is_here place) part is.own (n - 1) d below))

-- a row behind those of its place stands behind all rows so far: between two of a group stand rows of this group alone
run_ends : (rows : List Row) (i place : ℕ) (low high : ℕ) (d : Row) → i < length rows → IsRun (take i rows) place low high → 0 < high
    → StandTogether rows → list_all is_row rows ≡ true → place ≡ place_of (get_or rows i d).pgn
    → Alone (get_or rows i d).pgn place
    → high ≡ i
run_ends rows i place low high d below is some together sound here alone =
    let len = length-take i rows in
    let inside = is.inside in
    let row = get_or rows i d in
    elim (cases_Bool (nat_lt high i)) [
      | inl less ↦
          let l : high < i = ltb-true _ _ less in
          let first : get_or (take i rows) (high - 1) d ≡ get_or rows (high - 1) d = get_or-take i rows (high - 1) d (omega (arith, l)) in
          let next : get_or (drop high (take i rows)) 0 d ≡ get_or rows high d =
          get_or-drop high (take i rows) 0 d ∙ ap (λ k. get_or (take i rows) k d) (omega arith) ∙ get_or-take i rows high d l in
          let listed = λ (k : ℕ) (h : k < length rows). (row_is (get_or rows k d) (row_at rows k d sound h)).listed in
          let same : (get_or rows (high - 1) d).pgn ≡ row.pgn =
          alone _ (listed i below) (listed (high - 1) (omega (arith, l, below))) (ap (λ (r : Row). place_of r.pgn) (sym first) ∙ last_here (take i rows) place low high d is some) in
          let between : (get_or rows high d).pgn ≡ row.pgn = together (high - 1) high i d (omega arith) (omega (arith, l)) below same ∙ same in
          let elsewhere = AllPass-from_list_all (is_elsewhere place) (drop high (take i rows)) is.none_behind 0 d (simp length-drop (omega (arith, l, len, below))) in
          let other = subst (λ r. is_elsewhere place r ≡ true) next elsewhere in
          absurd (eqb-false _ _ (not-true _ other) (ap place_of between ∙ sym here))
      | inr more ↦ let m = ltb-false _ _ more in omega (arith, m, inside, len, below)
    ]

-- and of this one
run_grown : (rows : List Row) (row : Row) (place : ℕ) (low high low' high' : ℕ) → (high ≡ 0 → low' ≡ length rows) → (0 < high → low' ≡ low)
    → high' ≡ length rows + 1 → (0 < high → high ≡ length rows) → is_here place row ≡ true → IsRun rows place low high → IsRun (rows ++ (row ∷ [])) place low' high'
run_grown rows row place low high low' high' begun grown end last here is =
    let all = rows ++ (row ∷ []) in
    let len = length-append rows (row ∷ []) in
    let behind : drop high' all ≡ [] = drop_all high' all (omega (arith, len, end)) in
    let none_behind : list_all (is_elsewhere place) (drop high' all) ≡ true = ap (list_all (is_elsewhere place)) behind in
    let own : (first : ℕ) → low' ≡ first → first ≤ length rows → list_all (is_here place) (drop first rows) ≡ true
    → list_all (is_here place) (take (high' - low') (drop low' all)) ≡ true = λ first same fits holds.
    ap (λ k. list_all (is_here place) (take (high' - k) (drop k all))) same
    ∙ ap (list_all (is_here place)) (take_all (high' - first) (drop first all) (simp length-drop (omega (arith, len, end))) ∙ drop-append-le first rows (row ∷ []) fits)
    ∙ all_of_one (is_here place) row (drop first rows) here holds in
    elim (cases_zero high) [
      | inl empty ↦
          let first = begun empty in
          let whole : take low' all ≡ drop high rows = ap (λ k. take k all) first ∙ take-append-le (length rows) rows (row ∷ []) (omega arith) ∙ take_all (length rows) rows (omega arith) ∙ sym (ap (λ k. drop k rows) empty) in
          record {
            ordered = omega (arith, first, end);
            inside = omega (arith, len, end);
            filled = λ some. omega (arith, first, end);
            own = own (length rows) first (omega arith) (ap (list_all (is_here place)) (drop_all (length rows) rows (omega arith)));
            none_before = ap (list_all (is_elsewhere place)) whole ∙ is.none_behind;
            none_behind = none_behind;
          }
      | inr some ↦
          let first = grown some in
          let inside = is.inside in
          let ordered = is.ordered in
          let whole = last some in
          let part : take (high - low) (drop low rows) ≡ drop low rows = take_all (high - low) (drop low rows) (simp length-drop (omega (arith, whole, ordered))) in
          record {
            ordered = omega (arith, first, end, inside, ordered);
            inside = omega (arith, len, end);
            filled = λ more. omega (arith, first, end, inside, ordered);
            own = own low first (omega (arith, inside, ordered)) (ap (list_all (is_here place)) (sym part) ∙ is.own);
            none_before = ap (λ k. list_all (is_elsewhere place) (take k all)) first
                ∙ ap (list_all (is_elsewhere place)) (take-append-le low rows (row ∷ []) (omega (arith, ordered, inside))) ∙ is.none_before;
            none_behind = none_behind;
          }
    ]

-- the runs of one row more
pub runs_more : (runs : List Run) (rows : List Row) (i k : ℕ) (d : Row) (o next : Run) → i < length rows → k ≡ place_of (get_or rows i d).pgn → k < length runs
    → ((bounds_of (get_or runs k o)).1 ≡ 0 → (bounds_of next).0 ≡ i) → (0 < (bounds_of (get_or runs k o)).1 → (bounds_of next).0 ≡ (bounds_of (get_or runs k o)).0) → (bounds_of next).1 ≡ i + 1
    → StandTogether rows → list_all is_row rows ≡ true
    → Alone (get_or rows i d).pgn k
    → AreRuns runs (take i rows) → AreRuns (slice_set runs k next) (take (i + 1) rows)
runs_more runs rows i k d o next below is inside begun grown end together sound alone are place e few =
    let row = get_or rows i d in
    let len = length-take i rows in
    let here : length (take i rows) ≡ i = omega (arith, len, below) in
    let whole = take_more rows i d below in
    subst (λ rs. IsRun rs place (bounds_of (get_or (slice_set runs k next) place e)).0 (bounds_of (get_or (slice_set runs k next) place e)).1) (sym whole) (elim (cases_Bool (place == k)) [
      | inl same ↦
          let at = get_or-set_at runs k place next e (eqb-true _ _ same) inside in
          let this = subst (λ m. IsRun (take i rows) m (bounds_of (get_or runs m o)).0 (bounds_of (get_or runs m o)).1) (eqb-true _ _ same) (are place o few) in
          let that : IsRun (take i rows ++ (row ∷ [])) k (bounds_of next).0 (bounds_of next).1 =
          run_grown (take i rows) row k _ _ _ _ (λ z. begun z ∙ sym here) grown (end ∙ ap (λ n. n + 1) (sym here))
          (λ some. run_ends rows i k _ _ d below this some together sound is alone ∙ sym here) (eq-eqb _ _ (sym is)) this in
          rw at (subst (λ m. IsRun (take i rows ++ (row ∷ [])) m (bounds_of next).0 (bounds_of next).1) (sym (eqb-true _ _ same)) that)
      | inr other ↦
          let at = get_or-set_other runs k place next e (eqb-false _ _ other) in
          let apart : (place_of row.pgn == place) ≡ false = ne_eqb _ _ (λ same. eqb-false _ _ other (sym same ∙ sym is)) in
          let elsewhere : is_elsewhere place row ≡ true = ap not apart in
          rw at (run_kept (take i rows) row place _ _ elsewhere (are place e few))
    ])

no_other : (rows : List Row) (pgn place : ℕ) → place ≡ place_of pgn → list_all (is_elsewhere place) rows ≡ true → list_any (λ row. row.pgn == pgn) (take 1 rows) ≡ false
no_other [] pgn place at all = refl
no_other (row ∷ rows) pgn place at all = elim (cases_Bool (row.pgn == pgn)) [
  | inl same ↦ absurd (eqb-false _ _ (not-true _ (and_parts _ _ all).0) (ap place_of (eqb-true _ _ same) ∙ sym at))
  | inr other ↦ rw other refl
]

all_behind : {X : Type 0} (p : X → Bool) (xs : List X) (n : ℕ) → list_all p xs ≡ true → list_all p (drop n xs) ≡ true
all_behind p xs n all = (and_parts _ _ (sym (list_all-append p (take n xs) (drop n xs)) ∙ ap (list_all p) (take-append-drop n xs) ∙ all)).1

-- where the row at the first place of a run is of the group, the run has rows
bounds_at : (rows : List Row) (run : Run) (pgn place : ℕ) → place ≡ place_of pgn → IsRun rows place (bounds_of run).0 (bounds_of run).1
    → list_any (λ row. row.pgn == pgn) (take 1 (drop run.first rows)) ≡ true → bounds_of run ≡ (run.first, run.last + 1)
bounds_at rows run pgn place at is first = elim (cases_Bool (nat_lt run.last run.first)) [
  | inl none ↦
      let bounds : bounds_of run ≡ (0, 0) = rw none refl in
      let here = subst (λ (b : ℕ × ℕ). IsRun rows place b.0 b.1) bounds is in
      let all = all_behind (is_elsewhere place) rows run.first here.none_behind in
      absurd (false≢true (sym (no_other (drop run.first rows) pgn place at all) ∙ first))
  | inr some ↦ rw some refl
]

-- and where it is not, it has none of the group
not_at : (rows : List Row) (run : Run) (pgn place : ℕ) → IsRun rows place (bounds_of run).0 (bounds_of run).1
    → list_any (λ row. row.pgn == pgn) (take 1 (drop run.first rows)) ≡ false
    → list_any (λ row. row.pgn == pgn) (take 1 (take ((bounds_of run).1 - (bounds_of run).0) (drop (bounds_of run).0 rows))) ≡ false
not_at rows run pgn place is first = elim (cases_Bool (nat_lt run.last run.first)) [
  | inl none ↦ rw none refl
  | inr some ↦
      let low = ltb-false _ _ some in
      rw some (ap (list_any (λ (row : Row). row.pgn == pgn)) (take-take 1 (run.last + 1 - run.first) (drop run.first rows) (omega (arith, low))) ∙ first)
]

abbrev the_run : List Run → ℕ → Run
the_run runs place = get_or runs place (record { first = 0; last = 0 })

pub run_found : (runs : List Run) (rows : List Row) (pgn place first last : ℕ) → first ≡ (the_run runs place).first → last ≡ (the_run runs place).last
    → place ≡ place_of pgn → place < 17408 → Alone pgn place → AreRuns runs rows → list_all is_row rows ≡ true
    → list_any (λ row. row.pgn == pgn) (take 1 (drop first rows)) ≡ true
    → (take (last + 1 - first) (drop first rows) ≡ filter (λ row. row.pgn == pgn) rows) × (first ≤ last + 1) × (last + 1 ≤ length rows)
run_found runs rows pgn place first last low high at fits alone are sound here =
    let run = the_run runs place in
    let is = are place (record { first = 0; last = 0 }) fits in
    let bounds = bounds_at rows run pgn place at is (rw low at here) in
    let whole : IsRun rows place first (last + 1) = rw (low, high) (subst (λ (b : ℕ × ℕ). IsRun rows place b.0 b.1) bounds is) in
    let filled = whole.filled (omega arith) in
    let lone : list_any (λ row. row.pgn == pgn) (take 1 (take (last + 1 - first) (drop first rows))) ≡ true =
    ap (list_any (λ (row : Row). row.pgn == pgn)) (take-take 1 (last + 1 - first) (drop first rows) (omega (arith, filled))) ∙ here in
    (run_is rows pgn place first (last + 1) at whole sound alone lone, whole.ordered, whole.inside)

pub run_not_found : (runs : List Run) (rows : List Row) (pgn place first : ℕ) → first ≡ (the_run runs place).first
    → place ≡ place_of pgn → place < 17408 → Alone pgn place → AreRuns runs rows → list_all is_row rows ≡ true
    → list_any (λ row. row.pgn == pgn) (take 1 (drop first rows)) ≡ false → [] ≡ filter (λ row. row.pgn == pgn) rows
run_not_found runs rows pgn place first low at fits alone are sound other =
    let is = are place (record { first = 0; last = 0 }) fits in
    run_is_not rows pgn place _ _ at is sound alone (not_at rows (the_run runs place) pgn place is (rw low at other))
