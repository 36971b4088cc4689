-- The lines of a table, one more at a time.
use Rattle.std.proofs.Common.{◌≡◌, ◌<◌, ◌≤◌, ◌+◌, ◌-◌, ◌==◌, ◌∙◌, ◌++◌, ℕ, suc, Bool, true, false, List, [], ◌∷◌, length, take, get_or, refl, sym, ap, append-nil, arith, Some, slice_get, subst}
use Rattle.std.specs.List.{position_or_len, slice_split}
use Rattle.std.proofs.Math.Seq.{take-append_seam}
use Rattle.std.proofs.lemmas.Grind.{common_steps}
use Rattle.std.proofs.lemmas.List.{length-map}
use Rattle.std.proofs.lemmas.List.Elements.{filter-append}
use Rattle.std.proofs.lemmas.List.Splits.{length-slice_split}
use Rattle.std.proofs.lemmas.List.Sums.{count_by-le-length}
use Rattle.j39_groups.specs.Row.{RowRecord}
use Rattle.j39_groups.proofs.ListLemmas.{behind}
use Rattle.j39_table.specs.Spelled.{SpellsRow}
use Rattle.j39_table.specs.Tables.{SpellEach, SpellRows, WantsMemory, bare_line, is_row_line, lines_of, row_lines, ReadsBefore}

pub bare_last : (line : List ℕ) → 0 < length line → get_or line (length line - 1) 0 ≡ 13 → take (length line - 1) line ≡ bare_line line
bare_last [] some last = absurd (omega arith)
bare_last (b ∷ []) some last = rw last refl
bare_last (b ∷ c ∷ rest) some last =
    let len : length (b ∷ c ∷ rest) - 1 ≡ suc (length (c ∷ rest) - 1) = omega arith in
    ap (λ n. take n (b ∷ c ∷ rest)) len
    ∙ ap (λ xs. b ∷ xs) (bare_last (c ∷ rest) (omega arith) (sym (ap (λ n. get_or (b ∷ c ∷ rest) n 0) len) ∙ last))

pub bare_same : (line : List ℕ) → 0 < length line → (get_or line (length line - 1) 0 ≡ 13 → ⊥) → line ≡ bare_line line
bare_same [] some other = absurd (omega arith)
bare_same (b ∷ []) some other =
    let no_return : (b == 13) ≡ false = grind (arith, common_steps) in rw no_return refl
bare_same (b ∷ c ∷ rest) some other =
    let len : length (b ∷ c ∷ rest) - 1 ≡ suc (length (c ∷ rest) - 1) = omega arith in
    ap (λ xs. b ∷ xs) (bare_same (c ∷ rest) (omega arith) (λ last. other (ap (λ n. get_or (b ∷ c ∷ rest) n 0) len ∙ last)))

-- without a newline a text is one line
pub one_line : (text : List ℕ) → length text ≤ position_or_len (λ b. b == 10) text → slice_split (λ b. b == 10) text ≡ text ∷ []
one_line [] short = refl
one_line (b ∷ text) short = by_byte (b == 10) refl (one_line text)
  where
    by_byte : (is : Bool) → (b == 10) ≡ is → (length text ≤ position_or_len (λ b. b == 10) text → slice_split (λ b. b == 10) text ≡ text ∷ [])
        → slice_split (λ b. b == 10) (b ∷ text) ≡ (b ∷ text) ∷ []
    by_byte true is one = absurd (let none : position_or_len (λ b. b == 10) (b ∷ text) ≡ 0 = rw is refl in omega (arith, none, short))
    by_byte false is one =
        let rest : position_or_len (λ b. b == 10) (b ∷ text) ≡ 1 + position_or_len (λ b. b == 10) text = rw is refl in
        rw (is, one (omega (arith, rest, short))) refl

pub few_lines : (text : List ℕ) → length (lines_of text) ≤ length text + 1
few_lines text =
    let same = length-map (slice_split (λ b. b == 10) text) bare_line in
    let parts = length-slice_split (λ b. b == 10) text in
    let few = count_by-le-length (λ b. b == 10) text in
    omega (arith, same, parts, few)

pub SpellEach-push : {T : Type 0} (Spells : List ℕ → T → Type 0) (lines : List (List ℕ)) (xs : List T) (line : List ℕ) (x : T) → SpellEach Spells lines xs
    → Spells line x → SpellEach Spells (lines ++ (line ∷ [])) (xs ++ (x ∷ []))
SpellEach-push Spells [] [] line x all one = (one, tt)
SpellEach-push Spells [] (y ∷ ys) line x all one = absurd all
SpellEach-push Spells (l ∷ lines) [] line x all one = absurd all
SpellEach-push Spells (l ∷ lines) (y ∷ ys) line x all one = (all.0, SpellEach-push Spells lines ys line x all.1 one)

-- a line more says nothing, or spells one row more
pub passed_line : {T : Type 0} (Spells : List ℕ → T → Type 0) (lines : List (List ℕ)) (line : List ℕ) (rows : List T) → is_row_line line ≡ false
    → SpellEach Spells (row_lines lines) rows → SpellEach Spells (row_lines (lines ++ (line ∷ []))) rows
passed_line Spells lines line rows comment spelled =
    let none_more : row_lines (line ∷ []) ≡ [] = rw comment refl in
    subst (λ ls. SpellEach Spells ls rows) (sym (filter-append is_row_line lines (line ∷ []) ∙ ap (λ ls. row_lines lines ++ ls) none_more ∙ append-nil _)) spelled

pub spelled_line : {T : Type 0} (Spells : List ℕ → T → Type 0) (lines : List (List ℕ)) (line : List ℕ) (rows : List T) (row : T) → is_row_line line ≡ true
    → SpellEach Spells (row_lines lines) rows → Spells line row → SpellEach Spells (row_lines (lines ++ (line ∷ []))) (rows ++ (row ∷ []))
spelled_line Spells lines line rows row is_row spelled spells =
    let one_more : row_lines (line ∷ []) ≡ line ∷ [] = rw is_row refl in
    subst (λ ls. SpellEach Spells ls (rows ++ (row ∷ []))) (sym (filter-append is_row_line lines (line ∷ []) ∙ ap (λ ls. row_lines lines ++ ls) one_more))
    (SpellEach-push Spells (row_lines lines) rows line row spelled spells)

-- the line behind some lines of a text, and what they spell
abbrev pub reads_before : {T : Type 0} (Spells : List ℕ → T → Type 0) (text : List ℕ) (lines more : List (List ℕ)) (line : List ℕ) (rows : List T)
    → lines_of text ≡ lines ++ (line ∷ more) → is_row_line line ≡ true → SpellEach Spells (row_lines lines) rows → ReadsBefore Spells text (length lines) line
reads_before Spells text lines more line rows are is_row spelled = record {
  rows = rows;
  spelled = subst (λ ls. SpellEach Spells (row_lines ls) rows) (sym (ap (take (length lines)) are ∙ take-append_seam lines (line ∷ more))) spelled;
  next =
      (let here : length lines ≡ length lines + 0 = omega arith in
      ap (λ ls. slice_get ls (length lines)) are ∙ ap (slice_get (lines ++ (line ∷ more))) here ∙ behind lines (line ∷ more) 0);
  is_row = is_row;
}

pub some_row : (rows : List RowRecord) → (length rows ≤ 20 → ⊥) → 0 < length rows
some_row [] many = absurd (many (omega arith))
some_row (row ∷ rows) many = omega arith

-- a line spells a row, and none before it is a row's
record HasFirstRow (lines : List (List ℕ)) : Type 0 where
  line : List ℕ
  count : ℕ
  next : slice_get lines count ≡ Some line
  is_row : is_row_line line ≡ true
  none : row_lines (take count lines) ≡ []
  row : RowRecord
  spelled : SpellsRow line row

first_row : (lines : List (List ℕ)) (rows : List RowRecord) → SpellRows (row_lines lines) rows → 0 < length rows → HasFirstRow lines
first_row [] [] spelled some = absurd (omega arith)
first_row [] (row ∷ rows) spelled some = absurd spelled
first_row (line ∷ lines) [] spelled some = absurd (omega arith)
first_row (line ∷ lines) (row ∷ rows) spelled some = by_kind (is_row_line line) refl (λ rest. first_row lines (row ∷ rows) rest some)
  where
    by_kind : (b : Bool) → is_row_line line ≡ b → (SpellRows (row_lines lines) (row ∷ rows) → HasFirstRow lines) → HasFirstRow (line ∷ lines)
    by_kind true is others =
        let both : SpellRows (line ∷ row_lines lines) (row ∷ rows) = rw is at spelled in
        record { line = line; count = 0; next = refl; is_row = is; none = refl; row = row; spelled = both.0 }
    by_kind false is others =
        let found = others (rw is at spelled) in
        record {
          line = found.line;
          count = suc found.count;
          next = found.next;
          is_row = found.is_row;
          none = rw is found.none;
          row = found.row;
          spelled = found.spelled;
        }

-- where lines spell rows, memory is wanted at the first
pub wants_rows : (text : List ℕ) (rows : List RowRecord) → SpellRows (row_lines (lines_of text)) rows → 0 < length rows → WantsMemory SpellsRow text
wants_rows text rows spelled some =
    let first = first_row (lines_of text) rows spelled some in
    record {
      line = first.line;
      count = first.count;
      before = record { rows = []; spelled = subst (λ lines. SpellRows lines []) (sym first.none) tt; next = first.next; is_row = first.is_row };
      row = first.row;
      spelled = first.spelled;
    }
