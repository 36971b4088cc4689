-- What holds of the whole table, row by row.
use Rattle.std.proofs.Common.{sym, ◌≡◌, ◌<◌, ◌≤◌, ◌+◌, ◌==◌, ℕ, List, [], ◌∷◌, Bool, length, get_or, take, refl, ap, ◌∙◌, true, false, arith, map, inl, inr}
use Rattle.std.specs.Prelude.{nat_le, filter, slice_get, if◌then◌else◌, Option, Some}
use Rattle.std.specs.List.{filter_map, Contains, All, list_all, list_any}
use Rattle.std.proofs.lemmas.Bool.{and_parts, cases_Bool, leb-true, eq-eqb, ne_eqb, false≢true}
use Rattle.std.proofs.lemmas.List.Sums.{AllPass-from_list_all, sum_by_more_le}
use Rattle.std.proofs.lemmas.List.Elements.{All-contains, All-head, All-tail}
use Rattle.j39_groups.specs.declared.row.Row.{Row}
use Rattle.j39_groups.specs.Row.{RowRecord}
use Rattle.j39_groups.specs.Table.{the_table}
use Rattle.j39_groups.specs.Rows.{is_built_in, most_values, most_values_of}
use Rattle.j39_groups.specs.Readings.{is_network_group, is_reported_in}
use Rattle.j39_groups.specs.Slots.{SizedSlotRecord, slot_at}
use Rattle.j39_groups.proofs.ListLemmas.{lone, contains_filter_map}

-- the values of a further row of a group have places
pub room : (rows : List Row) (pgn i : ℕ) (d : Row) → is_built_in rows ≡ true → i < length rows → (get_or rows i d).pgn ≡ pgn
    → most_values_of pgn (take i rows) + most_values (get_or rows i d).field ≤ 32
room rows pgn i d h below same =
    let each = AllPass-from_list_all _ rows h in
    let whole : most_values_of (get_or rows i d).pgn rows ≤ 32 = leb-true _ _ (and_parts _ _ (each i d below)).1 in
    let group : most_values_of pgn rows ≤ 32 = rw same at whole in
    let front = sum_by_more_le (λ row. if row.pgn == pgn then most_values row.field else 0) rows i d below in
    let next : (if (get_or rows i d).pgn == pgn then most_values (get_or rows i d).field else 0) ≡ most_values (get_or rows i d).field =
    rw (eq-eqb _ _ same) refl in
    omega (arith, group, front, next)

-- no parameter has a slot in two rows
abbrev has_one_slot : RowRecord → Bool
has_one_slot row = nat_le (length (filter_map (slot_at row.spn) the_table)) 1

one_slot_each : list_all has_one_slot the_table ≡ true
unfolding the_table
one_slot_each = refl

-- a parameter that has a slot in one row has that slot
pub slot_only : (row : RowRecord) (n : SizedSlotRecord) → Contains the_table row
    → slot_at row.spn row ≡ Some n → slice_get (filter_map (slot_at row.spn) the_table) 0 ≡ Some n
slot_only row n listed here =
    let few = leb-true _ _ (All-contains (λ r. has_one_slot r ≡ true) the_table row (AllPass-from_list_all _ the_table one_slot_each) listed) in
    lone _ n few (contains_filter_map (slot_at row.spn) the_table row n listed here)

pub filter_none : {X : Type 0} (p : X → Bool) (xs : List X) → All (λ x. p x ≡ false) xs → filter p xs ≡ []
filter_none p [] h = refl
filter_none p (x ∷ xs) h = rw (All-head (λ x. p x ≡ false) x xs h) (filter_none p xs (All-tail (λ x. p x ≡ false) x xs h))

-- where a table has no row of the network's groups, a group is reported that it lists
no_network : (pgn : ℕ) (rows : List RowRecord) → is_network_group pgn ≡ true → list_any (λ row. is_network_group row.pgn) rows ≡ false
    → list_any (λ row. row.pgn == pgn) rows ≡ false
no_network pgn [] net none = refl
no_network pgn (row ∷ rows) net none = elim (cases_Bool (is_network_group row.pgn)) [
  | inl listed ↦ let first : list_any (λ row. is_network_group row.pgn) (row ∷ rows) ≡ true = rw listed refl in absurd (false≢true (sym none ∙ first))
  | inr free ↦
      let rest : list_any (λ row. is_network_group row.pgn) rows ≡ false = rw free at none in
      let other : (row.pgn == pgn) ≡ false = ne_eqb _ _ (λ same. absurd (false≢true (sym free ∙ (ap is_network_group same ∙ net)))) in
      rw other (no_network pgn rows net rest)
]

pub listed_is_reported : (rows : List RowRecord) (pgn : ℕ) → list_any (λ row. is_network_group row.pgn) rows ≡ false
    → list_any (λ row. row.pgn == pgn) rows ≡ is_reported_in rows pgn
unfolding is_reported_in
listed_is_reported rows pgn none = elim (cases_Bool (is_network_group pgn)) [
  | inl net ↦ let silent = no_network pgn rows net none in rw (net, silent) refl
  | inr free ↦ rw free refl
]

built_in_is_open : list_any (λ row. is_network_group row.pgn) the_table ≡ false
unfolding the_table
built_in_is_open = refl

pub listed_is_reported_built_in : (pgn : ℕ) → list_any (λ row. row.pgn == pgn) the_table ≡ is_reported_in the_table pgn
listed_is_reported_built_in pgn = listed_is_reported the_table pgn built_in_is_open

pub filter_unlisted : {X : Type 0} (p : X → Bool) (xs : List X) → list_any p xs ≡ false → filter p xs ≡ []
filter_unlisted p [] h = refl
filter_unlisted p (x ∷ xs) h = elim (cases_Bool (p x)) [
  | inl passes ↦ let same : list_any p (x ∷ xs) ≡ true = rw passes refl in absurd (false≢true (sym h ∙ same))
  | inr fails ↦ let rest : list_any p xs ≡ false = rw fails at h in rw fails (filter_unlisted p xs rest)
]

-- what is asked of the rows of a list, asked of what is seen of them
pub filter-seen : {X Y : Type 0} (view : X → Y) (p : Y → Bool) (xs : List X) → filter p (map view xs) ≡ map view (filter (λ x. p (view x)) xs)
filter-seen view p [] = refl
filter-seen view p (x ∷ xs) = elim (cases_Bool (p (view x))) [
  | inl passes ↦ rw passes (ap (λ ys. view x ∷ ys) (filter-seen view p xs))
  | inr fails ↦ rw fails (filter-seen view p xs)
]

pub filter_map-seen : {X Y Z : Type 0} (view : X → Y) (f : Y → Option Z) (xs : List X) → filter_map f (map view xs) ≡ filter_map (λ x. f (view x)) xs
filter_map-seen view f [] = refl
filter_map-seen view f (x ∷ xs) = rw (filter_map-seen view f xs) refl

pub list_any-seen : {X Y : Type 0} (view : X → Y) (p : Y → Bool) (xs : List X) → list_any p (map view xs) ≡ list_any (λ x. p (view x)) xs
list_any-seen view p [] = refl
list_any-seen view p (x ∷ xs) = rw (list_any-seen view p xs) refl
