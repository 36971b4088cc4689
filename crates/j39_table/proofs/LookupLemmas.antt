-- The rows that lines spell, one line more, and what they give.
use Rattle.std.proofs.Common.{◌≡◌, ◌+◌, ◌==◌, ◌∙◌, ◌++◌, ℕ, Bool, true, false, List, [], ◌∷◌, Option, None, Some, if◌then◌else◌, append-nil, flat_map, length, refl, sym, ap, subst, arith, length-append, slice_get}
use Rattle.std.specs.Option.{option_map}
use Rattle.std.proofs.lemmas.Grind.{flat_map-append}
use Rattle.std.proofs.lemmas.List.Elements.{filter-append}
use Rattle.j39_groups.specs.Models.{row_record}
use Rattle.j39_groups.specs.Readings.{group_rows, readings_at, readings_in}
use Rattle.j39_groups.specs.Row.{RowRecord}
use Rattle.j39_groups.specs.Value.{ReadingRecord}
use Rattle.j39_groups.specs.declared.row.Row.{Row}
use Rattle.j39_groups.proofs.ListLemmas.{behind, in_front}
use Rattle.j39_table.specs.Spelled.{SpellsRow}
use Rattle.j39_table.specs.Tables.{SpellRows, is_row_line, row_lines}

-- ---- the rows of some lines, and of those behind them

pub record Parted (lines more : List (List ℕ)) (rows : List RowRecord) : Type 0 where
  pub front : List RowRecord
  pub back : List RowRecord
  pub rows_are : rows ≡ front ++ back
  pub front_spelled : SpellRows lines front
  pub back_spelled : SpellRows more back

pub part_rows : (lines more : List (List ℕ)) (rows : List RowRecord) → SpellRows (lines ++ more) rows → Parted lines more rows
part_rows [] more rows all = record { front = []; back = rows; rows_are = refl; front_spelled = tt; back_spelled = all }
part_rows (line ∷ lines) more [] all = absurd all
part_rows (line ∷ lines) more (row ∷ rows) all =
    let rest = part_rows lines more rows all.1 in
    record {
      front = row ∷ rest.front;
      back = rest.back;
      rows_are = ap (λ rs. row ∷ rs) rest.rows_are;
      front_spelled = (all.0, rest.front_spelled);
      back_spelled = rest.back_spelled;
    }

readings-append : (front back : List RowRecord) (pgn : ℕ) (bytes : List ℕ)
    → readings_in (front ++ back) pgn bytes ≡ readings_in front pgn bytes ++ readings_in back pgn bytes
unfolding readings_in
readings-append front back pgn bytes =
    ap (flat_map (readings_at bytes)) (filter-append (λ row. row.pgn == pgn) front back)
    ∙ flat_map-append (readings_at bytes) (group_rows pgn front) (group_rows pgn back)

-- what one row gives
abbrev pub given : List ℕ → Option Row → List ReadingRecord
given bytes None = []
given bytes (Some row) = readings_at bytes (row_record row)

by_one : (row : RowRecord) (found : Option Row) (pgn : ℕ) (bytes : List ℕ) (b : Bool) → (row.pgn == pgn) ≡ b
    → option_map row_record found ≡ (if b then Some row else None) → flat_map (readings_at bytes) (if b then row ∷ [] else []) ≡ given bytes found
by_one row None pgn bytes true is same = absurd (cc)
by_one row (Some found) pgn bytes true is same =
    let row_is : row ≡ row_record found = cc in append-nil (readings_at bytes row) ∙ ap (readings_at bytes) row_is
by_one row None pgn bytes false is same = refl
by_one row (Some found) pgn bytes false is same = absurd (cc)

given_by_one : (row : RowRecord) (found : Option Row) (pgn : ℕ) (bytes : List ℕ)
    → option_map row_record found ≡ (if row.pgn == pgn then Some row else None) → readings_in (row ∷ []) pgn bytes ≡ given bytes found
unfolding readings_in
given_by_one row found pgn bytes same = by_one row found pgn bytes (row.pgn == pgn) refl same

-- ---- one line more

pub record OneMore (lines : List (List ℕ)) (more : List ReadingRecord) (rows : List RowRecord) (pgn : ℕ) (bytes : List ℕ) : Type 0 where
  pub front : List RowRecord
  pub spelled : SpellRows lines front
  pub readings : readings_in rows pgn bytes ≡ readings_in front pgn bytes ++ more

with_one : (lines : List (List ℕ)) (line : List ℕ) (rows : List RowRecord) (found : Option Row) (pgn : ℕ) (bytes : List ℕ)
    → ((row : RowRecord) → SpellsRow line row → option_map row_record found ≡ (if row.pgn == pgn then Some row else None))
    → (parted : Parted lines (line ∷ []) rows) → (back : List RowRecord) → parted.back ≡ back → SpellRows (line ∷ []) back
    → OneMore lines (given bytes found) rows pgn bytes
with_one lines line rows found pgn bytes is parted [] back_is spelled = absurd spelled
with_one lines line rows found pgn bytes is parted (row ∷ []) back_is spelled = record {
  front = parted.front;
  spelled = parted.front_spelled;
  readings =
      ap (λ rs. readings_in rs pgn bytes) (parted.rows_are ∙ ap (λ back. parted.front ++ back) back_is)
      ∙ readings-append parted.front (row ∷ []) pgn bytes
      ∙ ap (λ rs. readings_in parted.front pgn bytes ++ rs) (given_by_one row found pgn bytes (is row spelled.0));
}
with_one lines line rows found pgn bytes is parted (row ∷ other ∷ back) back_is spelled = absurd spelled.1

pub one_more : (lines : List (List ℕ)) (line : List ℕ) (found : Option Row) (pgn : ℕ) (bytes : List ℕ) (rows : List RowRecord)
    → ((row : RowRecord) → is_row_line line ≡ true → SpellsRow line row → option_map row_record found ≡ (if row.pgn == pgn then Some row else None))
    → (is_row_line line ≡ false → found ≡ None) → SpellRows (row_lines (lines ++ (line ∷ []))) rows
    → OneMore (row_lines lines) (given bytes found) rows pgn bytes
one_more lines line found pgn bytes rows row comment spelled = by_kind (is_row_line line) refl
  where
    whole : SpellRows (row_lines lines ++ row_lines (line ∷ [])) rows
    whole = subst (λ ls. SpellRows ls rows) (filter-append is_row_line lines (line ∷ [])) spelled

    by_kind : (b : Bool) → is_row_line line ≡ b → OneMore (row_lines lines) (given bytes found) rows pgn bytes
    by_kind false is_not =
        let same : SpellRows (row_lines lines ++ []) rows = rw is_not at whole in
        record {
          front = rows;
          spelled = subst (λ ls. SpellRows ls rows) (append-nil (row_lines lines)) same;
          readings = sym (ap (λ f. readings_in rows pgn bytes ++ given bytes f) (comment is_not) ∙ append-nil (readings_in rows pgn bytes));
        }
    by_kind true is_row =
        let same : SpellRows (row_lines lines ++ (line ∷ [])) rows = rw is_row at whole in
        let parted = part_rows (row_lines lines) (line ∷ []) rows same in
        with_one (row_lines lines) line rows found pgn bytes (λ r spells. row r is_row spells) parted parted.back refl parted.back_spelled

-- ---- the reading behind so many

pub further : (before more : List ReadingRecord) (start left rest : ℕ) → start ≡ length before + left → left ≡ length more + rest
    → start ≡ length (before ++ more) + rest
further before more start left rest so_far these = let joined = length-append before more in omega (arith, so_far, these, joined)

pub picked : (before more after : List ReadingRecord) (start left : ℕ) (reading : ReadingRecord) → start ≡ length before + left
    → slice_get more left ≡ Some reading → slice_get ((before ++ more) ++ after) start ≡ Some reading
picked before more after start left reading so_far here =
    in_front (before ++ more) after start reading (ap (slice_get (before ++ more)) so_far ∙ behind before more left ∙ here)

-- what all lines give begins with what the first of them give
pub record Begins (lines : List (List ℕ)) (rows : List RowRecord) (pgn : ℕ) (bytes : List ℕ) : Type 0 where
  pub front : List RowRecord
  pub spelled : SpellRows lines front
  pub after : List ReadingRecord
  pub readings : readings_in rows pgn bytes ≡ readings_in front pgn bytes ++ after

pub begins : (lines more : List (List ℕ)) (rows : List RowRecord) (pgn : ℕ) (bytes : List ℕ) → SpellRows (row_lines (lines ++ more)) rows
    → Begins (row_lines lines) rows pgn bytes
begins lines more rows pgn bytes spelled =
    let parted = part_rows (row_lines lines) (row_lines more) rows (subst (λ ls. SpellRows ls rows) (filter-append is_row_line lines more) spelled) in
    record {
      front = parted.front;
      spelled = parted.front_spelled;
      after = readings_in parted.back pgn bytes;
      readings = ap (λ rs. readings_in rs pgn bytes) parted.rows_are ∙ readings-append parted.front parted.back pgn bytes;
    }

pub none_yet : (rows : List RowRecord) (pgn : ℕ) (bytes : List ℕ) (left : ℕ) → SpellRows [] rows → left ≡ length (readings_in rows pgn bytes) + left
unfolding readings_in
none_yet [] pgn bytes left none = omega arith
none_yet (row ∷ rows) pgn bytes left none = absurd none
