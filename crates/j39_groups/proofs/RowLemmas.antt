-- What is known of the rows of a table.
use Rattle.std.proofs.Common.{◌≡◌, ◌<◌, ◌≤◌, arith, inl, inr, ℕ, zero, suc, List, [], ◌∷◌, Bool, true, false, length, take, drop, get_or, map, refl, sym, ap, ◌∙◌, take-append-drop}
use Rattle.std.specs.Prelude.{◌==◌, ◌||◌, filter}
use Rattle.std.specs.List.{Contains, list_all, list_any}
use Rattle.std.proofs.lemmas.Bool.{and_parts, cases_Bool, eq-eqb, eqb-false, eqb-true, false≢true, not-true}
use Rattle.std.proofs.lemmas.List.Folds.{list_all-append}
use Rattle.std.proofs.lemmas.List.{get_or-map, length-map}
use Rattle.std.proofs.lemmas.List.Elements.{All-contains, Contains-append_right}
use Rattle.std.proofs.lemmas.List.Sums.{AllPass-from_list_all}
use Rattle.std.specs.List.Sorted.{IsNonDecreasingBy}
use Rattle.j39_groups.proofs.ListLemmas.{contains_filter, contains_head}
use Rattle.j39_groups.specs.declared.row.Row.{Row}
use Rattle.j39_groups.specs.Fields.{is_sound}
use Rattle.j39_groups.specs.Models.{row_record}
use Rattle.j39_groups.specs.Readings.{is_network_group}
use Rattle.j39_groups.specs.Ready.{is_prepared}
use Rattle.j39_groups.specs.Rows.{StandTogether, are_together, is_listed_group, is_not_of, is_of, is_row}

pub record RowIs (row : Row) : Type 0 where
  pub sound : is_sound row.field ≡ true
  pub listed : is_listed_group row.pgn ≡ true
  pub prepared : is_prepared row.prepared row.pgn row.spn row.field ≡ true

pub row_is : (row : Row) → is_row row ≡ true → RowIs row
unfolding is_row
row_is row h =
    let a = and_parts _ _ h in
    let b = and_parts _ _ a.1 in
    record { sound = a.0; listed = b.0; prepared = b.1 }

pub is_row_from : (row : Row) → RowIs row → is_row row ≡ true
unfolding is_row
is_row_from row is = let a = is.sound in let b = is.listed in let c = is.prepared in rw (a, b, c) refl

pub row_at : (rows : List Row) (i : ℕ) (d : Row) → list_all is_row rows ≡ true → i < length rows → is_row (get_or rows i d) ≡ true
row_at rows i d all below = AllPass-from_list_all is_row rows all i d below

-- what holds of all elements holds of a part of them
pub all_part : {X : Type 0} (p : X → Bool) (xs : List X) (i n : ℕ) → list_all p xs ≡ true → list_all p (take n (drop i xs)) ≡ true
all_part p xs i n all =
    let behind = (and_parts _ _ (sym (list_all-append p (take i xs) (drop i xs)) ∙ ap (list_all p) (take-append-drop i xs) ∙ all)).1 in
    (and_parts _ _ (sym (list_all-append p (take n (drop i xs)) (drop n (drop i xs))) ∙ ap (list_all p) (take-append-drop n (drop i xs)) ∙ behind)).0

-- no row is of the network's groups
pub rows_free : (rows : List Row) → list_all is_row rows ≡ true → list_any (λ row. is_network_group row.pgn) (map row_record rows) ≡ false
rows_free [] all = refl
rows_free (row ∷ rows) all =
    let both = and_parts _ _ all in
    let listed = (row_is row both.0).listed in
    let free : is_network_group row.pgn ≡ false = not-true _ (and_parts _ _ (and_parts _ _ listed).1).0 in
    rw free (rows_free rows both.1)

-- what holds of the rows of each group holds of all
pub all_chosen : {X : Type 0} (p q : X → Bool) (xs : List X) → list_all p xs ≡ true → list_all p (filter q xs) ≡ true
all_chosen p q [] all = refl
all_chosen p q (x ∷ xs) all =
    let both = and_parts (p x) (list_all p xs) all in
    let here : p x ≡ true = both.0 in
    elim (cases_Bool (q x)) [
      | inl chosen ↦ rw (chosen, here) (all_chosen p q xs both.1)
      | inr other ↦ rw other (all_chosen p q xs both.1)
    ]

each_sorted : {X : Type 0} (p : X → Bool) (n : X → ℕ) (xs all ys : List X) → list_all p xs ≡ true
    → ((k : ℕ) → filter (λ x. n x == k) all ≡ filter (λ x. n x == k) xs) → ((y : X) → Contains ys y → Contains all y) → list_all p ys ≡ true
each_sorted p n xs all [] holds same within = refl
each_sorted p n xs all (y ∷ ys) holds same within =
    let chosen = contains_filter (λ x. n x == n y) all y (within y (contains_head y ys)) (eq-eqb (n y) (n y) refl) in
    let here = rw (same (n y)) at chosen in
    let first : p y ≡ true = All-contains (λ x. p x ≡ true) (filter (λ x. n x == n y) xs) y
    (AllPass-from_list_all p (filter (λ x. n x == n y) xs) (all_chosen p (λ x. n x == n y) xs holds)) here in
    rw first (each_sorted p n xs all ys holds same (λ z has. within z (Contains-append_right (y ∷ []) ys z has)))

pub all_sorted : {X : Type 0} (p : X → Bool) (n : X → ℕ) (xs ys : List X) → list_all p xs ≡ true
    → ((k : ℕ) → filter (λ x. n x == k) ys ≡ filter (λ x. n x == k) xs) → list_all p ys ≡ true
all_sorted p n xs ys holds same = each_sorted p n xs ys ys holds same (λ y has. has)

pub sorted_seen : {X Y : Type 0} (view : X → Y) (n : Y → ℕ) (xs : List X) → IsNonDecreasingBy (λ x. n (view x)) xs → IsNonDecreasingBy n (map view xs)
sorted_seen view n [] rising = λ i j d up below. absurd (omega (arith, below))
sorted_seen view n (x ∷ xs) rising = λ i j d up below.
    let len = length-map (x ∷ xs) view in
    let inside : j < length (x ∷ xs) = omega (arith, len, below) in
    let first = get_or-map view (x ∷ xs) i x d (omega (arith, up, inside)) in
    let second = get_or-map view (x ∷ xs) j x d inside in
    rw (first, second) (rising i j x up inside)

-- ---- the rows of a group stand together

the_other : (a b : Bool) → (a || b) ≡ true → a ≡ false → b ≡ true
the_other true b either fails = absurd (false≢true (sym fails))
the_other false b either fails = either

first_of : (rows : List Row) (pgn : ℕ) (d : Row) → list_any (is_of pgn) (take 1 rows) ≡ true → (get_or rows zero d).pgn ≡ pgn
first_of [] pgn d h = absurd (false≢true h)
first_of (row ∷ rows) pgn d h = elim (cases_Bool (is_of pgn row)) [
  | inl same ↦ eqb-true _ _ same
  | inr other ↦ absurd (false≢true (sym (rw other refl) ∙ h))
]

together_at : (rows : List Row) (i j k : ℕ) (d : Row) → are_together rows ≡ true → i ≤ j → j ≤ k → k < length rows
    → (get_or rows i d).pgn ≡ (get_or rows k d).pgn → (get_or rows j d).pgn ≡ (get_or rows i d).pgn
together_at [] i j k d h up down below same = absurd (omega (arith, below))
together_at (row ∷ rows) zero zero k d h up down below same = refl
together_at (row ∷ rows) zero (suc j) zero d h up down below same = absurd (omega (arith, down))
together_at (row ∷ rows) zero (suc j) (suc k) d h up down below same =
    let both = and_parts _ _ h in
    let inside : k < length rows = omega (arith, below) in
    elim (cases_Bool (list_any (is_of row.pgn) (take 1 rows))) [
      | inl next ↦
          let first = first_of rows row.pgn d next in
          together_at rows zero j k d both.1 (omega arith) (omega (arith, down)) inside (first ∙ same) ∙ first
      | inr last ↦
          let other = AllPass-from_list_all (is_not_of row.pgn) rows (the_other _ _ both.0 last) k d inside in
          absurd (eqb-false _ _ (not-true _ other) (sym same))
    ]
together_at (row ∷ rows) (suc i) zero k d h up down below same = absurd (omega (arith, up))
together_at (row ∷ rows) (suc i) (suc j) zero d h up down below same = absurd (omega (arith, down))
together_at (row ∷ rows) (suc i) (suc j) (suc k) d h up down below same =
    together_at rows i j k d (and_parts _ _ h).1 (omega (arith, up)) (omega (arith, down)) (omega (arith, below)) same

pub all_together : (rows : List Row) → are_together rows ≡ true → StandTogether rows
all_together rows h = λ i j k d up down below same. together_at rows i j k d h up down below same

pub rising_together : (rows : List Row) → IsNonDecreasingBy (λ row. row.pgn) rows → StandTogether rows
rising_together rows rising = λ i j k d up down below same.
    let first = rising i j d up (omega (arith, down, below)) in
    let last = rising j k d down below in
    omega (arith, first, last, same)
