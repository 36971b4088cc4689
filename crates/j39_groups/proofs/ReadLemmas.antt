-- What the rows of a group give, and the lines of it.
use Rattle.std.proofs.Common.{◌≡◌, ◌<◌, ◌≤◌, ◌+◌, ◌-◌, ◌*◌, ◌==◌, ◌++◌, ℕ, suc, List, [], ◌∷◌, Bool, true, false, length, drop, get_or, map, refl, sym, ap, ap₂, ◌∙◌, arith, length-append, subst, drop-cons, inl, inr}
use Rattle.std.specs.Prelude.{◌&&◌, filter, not, Option, Result, Ok, Err, OnOk, slice_get}
use Rattle.std.specs.List.{filter_map, flat_map, list_all, list_any}
use Rattle.std.proofs.lemmas.Bool.{and_parts, cases_Bool, eqb-true, ne_eqb}
use Rattle.std.proofs.lemmas.List.{drop_all}
use Rattle.std.proofs.lemmas.List.Concat.{flat_map-cons}
use Rattle.std.proofs.lemmas.Grind.{flat_map-append}
use Rattle.std.proofs.lemmas.List.Folds.{flat_map-map}
use Rattle.j39_io.specs.Backwards.{WritesBefore}
use Rattle.j39_io.proofs.BackwardsLemmas.{before_none, before_then}
use Rattle.j39_groups.specs.declared.row.Row.{Row}
use Rattle.j39_groups.specs.Lines.{in_group, reading_line, readings_by, row_lines, row_readings}
use Rattle.j39_groups.specs.Models.{row_record}
use Rattle.j39_groups.specs.Names.{row_at, row_in}
use Rattle.j39_groups.specs.Readings.{group_rows, is_network_group, is_reported_in, readings_at, readings_in}
use Rattle.j39_groups.specs.Sightings.{sightings_at, sightings_in}
use Rattle.j39_groups.specs.Visits.{row_sightings}
use Rattle.j39_groups.proofs.ListLemmas.{filter_whole}
use Rattle.j39_groups.proofs.TableLemmas.{filter-seen, filter_map-seen, list_any-seen, listed_is_reported}
use Rattle.j39_groups.specs.Row.{RowRecord}

-- some element passes where what passes is not empty
pub any_by_filter : {X : Type 0} (p : X → Bool) (xs : List X) → not (length (filter p xs) == 0) ≡ list_any p xs
any_by_filter p [] = refl
any_by_filter p (x ∷ xs) = elim (cases_Bool (p x)) [
  | inl passes ↦ let some : (suc (length (filter p xs)) == 0) ≡ false = ne_eqb _ _ (λ e. omega arith) in rw (passes, some) refl
  | inr fails ↦ rw fails (any_by_filter p xs)
]

-- what is told of the rows of a group
pub reported_by_group : (rows : List Row) (table : List RowRecord) (pgn : ℕ) → group_rows pgn (map row_record rows) ≡ group_rows pgn table
    → list_any (λ row. is_network_group row.pgn) (map row_record rows) ≡ false → list_any (λ row. row.pgn == pgn) rows ≡ is_reported_in table pgn
unfolding is_reported_in
reported_by_group rows table pgn same free =
    let p : RowRecord → Bool = λ row. row.pgn == pgn in
    sym (list_any-seen row_record p rows) ∙ listed_is_reported (map row_record rows) pgn free
    ∙ ap (λ listed. not (is_network_group pgn) && listed)
    (sym (any_by_filter p (map row_record rows)) ∙ ap (λ rs. not (length rs == 0)) same ∙ any_by_filter p table)

some_own : (rows : List Row) (pgn : ℕ) → list_all (λ row. row.pgn == pgn) rows ≡ true → not (length rows == 0) ≡ list_any (λ row. row.pgn == pgn) rows
some_own rows pgn own =
    ap (λ (rs : List Row). not (length rs == 0)) (sym (filter_whole (λ row. row.pgn == pgn) rows own)) ∙ any_by_filter (λ row. row.pgn == pgn) rows

-- and where they are those of the group alone
pub reported_by_rows : (rows : List Row) (table : List RowRecord) (pgn : ℕ) → list_all (λ row. row.pgn == pgn) rows ≡ true
    → map row_record rows ≡ group_rows pgn table → list_any (λ row. is_network_group row.pgn) (map row_record rows) ≡ false
    → not (length rows == 0) ≡ is_reported_in table pgn
reported_by_rows rows table pgn own same free =
    some_own rows pgn own
    ∙ reported_by_group rows table pgn
    (filter-seen row_record (λ (row : RowRecord). row.pgn == pgn) rows ∙ ap (map row_record) (filter_whole (λ (row : Row). row.pgn == pgn) rows own) ∙ same) free

given_more : {X Y : Type 0} (f : X → Option Y) (x : X) (these those : List X) → filter_map f these ≡ filter_map f those
    → filter_map f (x ∷ these) ≡ filter_map f (x ∷ those)
given_more f x these those same = rw same refl

found_by_group : (table : List RowRecord) (pgn spn : ℕ) → filter_map (row_at pgn spn) (group_rows pgn table) ≡ filter_map (row_at pgn spn) table
found_by_group [] pgn spn = refl
found_by_group (row ∷ table) pgn spn = elim (cases_Bool (row.pgn == pgn)) [
  | inl here ↦
      let kept : group_rows pgn (row ∷ table) ≡ row ∷ group_rows pgn table = rw here refl in
      ap (filter_map (row_at pgn spn)) kept ∙ given_more (row_at pgn spn) row (group_rows pgn table) table (found_by_group table pgn spn)
  | inr other ↦ rw other (found_by_group table pgn spn)
]

pub row_by_group : (rows : List Row) (table : List RowRecord) (pgn spn : ℕ) → map row_record rows ≡ group_rows pgn table
    → slice_get (filter_map (λ row. row_at pgn spn (row_record row)) rows) 0 ≡ row_in table pgn spn
row_by_group rows table pgn spn same = ap (λ names. slice_get names 0)
    (sym (filter_map-seen row_record (row_at pgn spn) rows) ∙ ap (filter_map (row_at pgn spn)) same ∙ found_by_group table pgn spn)

-- what is given of what is given
pub flat_map-flat_map : {X Y Z : Type 0} (f : X → List Y) (g : Y → List Z) (xs : List X)
    → flat_map (λ x. flat_map g (f x)) xs ≡ flat_map g (flat_map f xs)
flat_map-flat_map f g [] = refl
flat_map-flat_map f g (x ∷ xs) =
    flat_map-cons (λ x. flat_map g (f x)) x xs ∙ ap (λ ys. flat_map g (f x) ++ ys) (flat_map-flat_map f g xs)
    ∙ sym (flat_map-append g (f x) (flat_map f xs)) ∙ ap (flat_map g) (sym (flat_map-cons f x xs))

pub on_ok_from : {T E : Type 0} (r : Result T E) (P Q : Type 0) → (P → Q) → OnOk r P → OnOk r Q
on_ok_from (Ok x) P Q f h = f h
on_ok_from (Err e) P Q f h = tt

-- what the rows of a group give, sought among these rows
sought_readings : (rows : List Row) (pgn : ℕ) (bytes : List ℕ)
    → flat_map (row_readings pgn bytes) rows ≡ flat_map (readings_at bytes) (group_rows pgn (map row_record rows))
sought_readings [] pgn bytes = refl
sought_readings (row ∷ rows) pgn bytes = flat_map-cons (row_readings pgn bytes) row rows ∙ elim (cases_Bool (row.pgn == pgn)) [
  | inl here ↦ rw here (ap (λ xs. readings_at bytes (row_record row) ++ xs) (sought_readings rows pgn bytes)
      ∙ sym (flat_map-cons (readings_at bytes) (row_record row) (group_rows pgn (map row_record rows))))
  | inr other ↦ rw other (sought_readings rows pgn bytes)
]

pub readings_by_group : (rows : List Row) (table : List RowRecord) (pgn : ℕ) (bytes : List ℕ) → group_rows pgn (map row_record rows) ≡ group_rows pgn table
    → flat_map (row_readings pgn bytes) rows ≡ readings_in table pgn bytes
unfolding readings_in
readings_by_group rows table pgn bytes same = sought_readings rows pgn bytes ∙ ap (flat_map (readings_at bytes)) same

-- and where they are those of the group alone
pub readings_of_group : (rows : List Row) (table : List RowRecord) (pgn : ℕ) (bytes : List ℕ) → map row_record rows ≡ group_rows pgn table
    → flat_map (readings_by bytes) rows ≡ readings_in table pgn bytes
unfolding readings_in
readings_of_group rows table pgn bytes same = sym (flat_map-map (readings_at bytes) row_record rows) ∙ ap (flat_map (readings_at bytes)) same

pub sightings_of_group : (rows : List Row) (table : List RowRecord) (pgn : ℕ) (bytes : List ℕ) → map row_record rows ≡ group_rows pgn table
    → flat_map (row_sightings bytes) rows ≡ sightings_in table pgn bytes
unfolding sightings_in
sightings_of_group rows table pgn bytes same = sym (flat_map-map (sightings_at bytes) row_record rows) ∙ ap (flat_map (sightings_at bytes)) same

in_own_group : (rows : List Row) (pgn : ℕ) (head bytes : List ℕ) → list_all (λ row. row.pgn == pgn) rows ≡ true
    → flat_map (row_lines head bytes) rows ≡ flat_map (λ row. flat_map (reading_line (in_group head pgn)) (readings_by bytes row)) rows
in_own_group [] pgn head bytes own = refl
in_own_group (row ∷ rows) pgn head bytes own =
    let both = and_parts _ _ own in
    flat_map-cons (row_lines head bytes) row rows
    ∙ ap₂ (λ xs ys. xs ++ ys) (ap (λ n. flat_map (reading_line (in_group head n)) (readings_by bytes row)) (eqb-true _ _ both.0)) (in_own_group rows pgn head bytes both.1)
    ∙ sym (flat_map-cons (λ (row : Row). flat_map (reading_line (in_group head pgn)) (readings_by bytes row)) row rows)

pub lines_of_group : (rows : List Row) (table : List RowRecord) (pgn : ℕ) (head bytes : List ℕ) → list_all (λ row. row.pgn == pgn) rows ≡ true
    → map row_record rows ≡ group_rows pgn table
    → flat_map (row_lines head bytes) rows ≡ flat_map (reading_line (in_group head pgn)) (readings_in table pgn bytes)
lines_of_group rows table pgn head bytes own same =
    in_own_group rows pgn head bytes own ∙ flat_map-flat_map (readings_by bytes) (reading_line (in_group head pgn)) rows
    ∙ ap (flat_map (reading_line (in_group head pgn))) (readings_of_group rows table pgn bytes same)

-- the lines of the rows from a place on are written
pub record RowsWritten (head bytes : List ℕ) (rows : List Row) (old new : List ℕ) (left at lines : ℕ) : Type 0 where
  pub inside : left ≤ length rows
  pub text : WritesBefore old new 960 at (flat_map (row_lines head bytes) (drop left rows))
  pub count : lines ≡ length (flat_map (readings_by bytes) (drop left rows))
  pub fewer : lines + left ≤ length rows
  pub room : 960 ≤ at + 120 * (length rows - left)

pub none_written : (head bytes : List ℕ) (rows : List Row) (old : List ℕ) → RowsWritten head bytes rows old old (length rows) 960 0
none_written head bytes rows old =
    let none : drop (length rows) rows ≡ [] = drop_all (length rows) rows (omega arith) in
    record {
      inside = omega arith;
      text = subst (λ rs. WritesBefore old old 960 960 (flat_map (row_lines head bytes) rs)) (sym none) (before_none old 960);
      count = ap (λ rs. length (flat_map (readings_by bytes) rs)) (sym none);
      fewer = omega arith;
      room = omega arith;
    }

-- the lines of the row before are written too
pub row_more : (head bytes : List ℕ) (rows : List Row) (old new newer : List ℕ) (left at lines start more : ℕ) (d : Row)
    → RowsWritten head bytes rows old new left at lines → 0 < left
    → WritesBefore new newer at start (row_lines head bytes (get_or rows (left - 1) d))
    → more ≡ length (readings_by bytes (get_or rows (left - 1) d)) → more ≤ 1 → at ≤ start + 120
    → RowsWritten head bytes rows old newer (left - 1) start (lines + more)
row_more head bytes rows old new newer left at lines start more d w some line count few near =
    let row = get_or rows (left - 1) d in
    let next : suc (left - 1) ≡ left = omega (arith, some) in
    let cut : drop (left - 1) rows ≡ row ∷ drop left rows =
    drop-cons rows (left - 1) d (omega (arith, some, w.inside)) ∙ ap (λ k. row ∷ drop k rows) next in
    let lists : flat_map (readings_by bytes) (drop (left - 1) rows) ≡ readings_by bytes row ++ flat_map (readings_by bytes) (drop left rows) =
    ap (flat_map (readings_by bytes)) cut ∙ flat_map-cons (readings_by bytes) row (drop left rows) in
    record {
      inside = omega (arith, w.inside);
      text = subst (WritesBefore old newer 960 start)
          (sym (flat_map-cons (row_lines head bytes) row (drop left rows)) ∙ ap (flat_map (row_lines head bytes)) (sym cut))
          (before_then _ _ _ _ _ _ _ _ w.text line);
      count = (
          let same = ap length lists in
          let both = length-append (readings_by bytes row) (flat_map (readings_by bytes) (drop left rows)) in
          omega (arith, same, both, w.count, count)
          );
      fewer = omega (arith, w.fewer, few, some);
      room = omega (arith, w.room, w.inside, near, some);
    }

pub all_rows : (head bytes : List ℕ) (rows : List Row) (old new : List ℕ) (left at lines : ℕ) → RowsWritten head bytes rows old new left at lines → left ≡ 0
    → WritesBefore old new 960 at (flat_map (row_lines head bytes) rows) × (lines ≡ length (flat_map (readings_by bytes) rows))
all_rows head bytes rows old new left at lines w none = (
  subst (λ k. WritesBefore old new 960 at (flat_map (row_lines head bytes) (drop k rows))) none w.text,
  subst (λ k. lines ≡ length (flat_map (readings_by bytes) (drop k rows))) none w.count,
)
