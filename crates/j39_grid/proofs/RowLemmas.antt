-- The rows behind values, by the spans in which these came.
use Rattle.std.proofs.Common.{arith, ◌≡◌, ◌==◌, ◌+◌, ◌∙◌, ◌++◌, ◌∷◌, [], ℕ, List, Some, true, false, ap, append-nil, append_assoc, drop, flat_map, if◌then◌else◌, length, map, refl, reverse, sym}
use Rattle.std.specs.Prelude.{find}
use Rattle.std.proofs.lemmas.Grind.{flat_map-append}
use Rattle.std.proofs.lemmas.List.{reverse-append}
use Rattle.j39_listen.specs.Counting.{capped}
use Rattle.j39_listen.specs.Report.{Entry}
use Rattle.j39_rows.specs.Row.{CellRecord, nothing, or_nothing, row_text}
use Rattle.j39_grid.specs.Grid.{Asked, Span, behind, cell_in, column_at, column_in, grid_text, moment_head, moment_of, span_text, spans_back, spans_of, value_cell}
use Rattle.j39_grid.specs.GridModels.{RowsRecord}
use Rattle.j39_grid.specs.GridSoFar.{begun_at, emptied, ended_text, left_text, lines_with, moment_in, pending_text, placed, placed_at, rows_behind, shown, taken_at, text_behind}

-- ---- the columns

abbrev columns_of : List Entry → List ℕ → List (ℕ × CellRecord)
columns_of es spns = map (λ spn. (spn, cell_in es spn)) spns

cell_more : (es : List Entry) (e : Entry) (spn : ℕ) → (if e.spn == spn then value_cell e.value else cell_in es spn) ≡ cell_in (e ∷ es) spn
cell_more es e spn =
    elim (e.spn == spn) as (λ t. (if t then value_cell e.value else cell_in es spn)
    ≡ or_nothing (λ (x : Entry). value_cell x.value) (if t then Some e else find (λ (x : Entry). x.spn == spn) es)) [
      | true ↦ refl
      | false ↦ refl
    ]

-- a value stands in that of its parameter
placed_all : (es : List Entry) (e : Entry) (spns : List ℕ) → map (placed_at e.spn (value_cell e.value)) (columns_of es spns) ≡ columns_of (e ∷ es) spns
placed_all es e [] = refl
placed_all es e (spn ∷ spns) =
    ap (λ c. (spn, c) ∷ map (placed_at e.spn (value_cell e.value)) (columns_of es spns)) (cell_more es e spn)
    ∙ ap (λ xs. (spn, cell_in (e ∷ es) spn) ∷ xs) (placed_all es e spns)

emptied_all : (es : List Entry) (spns : List ℕ) → map emptied (columns_of es spns) ≡ columns_of [] spns
emptied_all es [] = refl
emptied_all es (spn ∷ spns) = ap (λ xs. (spn, nothing) ∷ xs) (emptied_all es spns)

columns_are : (es : List Entry) (spns : List ℕ) → map column_at (columns_of es spns) ≡ map (column_in es) spns
columns_are es [] = refl
columns_are es (spn ∷ spns) = ap (λ xs. column_in es spn ∷ xs) (columns_are es spns)

-- a value is the first of a new span
first_all : (es : List Entry) (e : Entry) (spns : List ℕ) → map (placed_at e.spn (value_cell e.value)) (map emptied (columns_of es spns)) ≡ columns_of (e ∷ []) spns
first_all es e spns = ap (map (placed_at e.spn (value_cell e.value))) (emptied_all es spns) ∙ placed_all [] e spns

module _ (asked : Asked) where
  abbrev at : Entry → ℕ
  at e = moment_of asked.every e.stamp

  -- ---- a value more

  rows_step : (spans : List Span) (e : Entry) → taken_at asked (shown asked spans) e ≡ shown asked (behind asked.every spans e)
  unfolding behind
  rows_step [] e = λ i. record { moment = Some (at e); places = first_all [] e asked.spns i; lines = 0 }
  rows_step (s ∷ before) e =
      elim (s.moment == at e) as (λ t. placed e.spn (value_cell e.value) (if t then shown asked (s ∷ before) else begun_at (at e) (shown asked (s ∷ before)))
      ≡ shown asked (if t then record { moment = s.moment; entries = e ∷ s.entries } ∷ before else record { moment = at e; entries = e ∷ [] } ∷ (s ∷ before))) [
        | true ↦ λ i. record { moment = Some s.moment; places = placed_all s.entries e asked.spns i; lines = capped (length before) }
        | false ↦
            let more : capped (capped (length before) + 1) ≡ capped (length (s ∷ before)) = omega arith in
            λ i. record { moment = Some (at e); places = first_all s.entries e asked.spns i; lines = more i }
      ]

  span_is : (s : Span) (before : List Span) → pending_text asked.form (shown asked (s ∷ before)) ≡ span_text asked s
  unfolding span_text
  span_is s before = ap (row_text asked.form (moment_head s.moment)) (columns_are s.entries asked.spns)

  -- the text of spans, and of one behind them
  abbrev texts_of : List Span → List ℕ
  texts_of spans = flat_map (span_text asked) (reverse spans)

  texts_more : (s : Span) (before : List Span) → texts_of (s ∷ before) ≡ texts_of before ++ pending_text asked.form (shown asked (s ∷ before))
  texts_more s before =
      ap (flat_map (span_text asked)) (reverse-append (s ∷ []) before) ∙ flat_map-append (span_text asked) (reverse before) (s ∷ [])
      ∙ ap (λ t. texts_of before ++ t) (append-nil (span_text asked s) ∙ sym (span_is s before))

  text_step : (spans : List Span) (e : Entry) → texts_of (drop 1 (behind asked.every spans e)) ≡ texts_of (drop 1 spans) ++ left_text asked.form (at e) (shown asked spans)
  unfolding behind
  text_step [] e = refl
  text_step (s ∷ before) e =
      elim (s.moment == at e) as (λ t. texts_of (drop 1 (if t then record { moment = s.moment; entries = e ∷ s.entries } ∷ before else record { moment = at e; entries = e ∷ [] } ∷ (s ∷ before)))
      ≡ texts_of before ++ (if t then [] else pending_text asked.form (shown asked (s ∷ before)))) [
        | true ↦ sym (append-nil (texts_of before))
        | false ↦ texts_more s before
      ]

  spans_more : (es : List Entry) (e : Entry) → spans_of asked (es ++ e ∷ []) ≡ behind asked.every (spans_of asked es) e
  unfolding spans_back
  spans_more es e = ap (spans_back asked.every) (reverse-append es (e ∷ []))

  -- ---- some more

  pub rows_all : (kept es : List Entry) → rows_behind asked (shown asked (spans_of asked es)) kept ≡ shown asked (spans_of asked (es ++ kept))
  unfolding rows_behind
  rows_all [] es = ap (λ (xs : List Entry). shown asked (spans_of asked xs)) (sym (append-nil es))
  rows_all (e ∷ kept) es =
      ap (λ (r : RowsRecord). rows_behind asked r kept) (rows_step (spans_of asked es) e ∙ ap (shown asked) (sym (spans_more es e)))
      ∙ rows_all kept (es ++ e ∷ []) ∙ ap (λ (xs : List Entry). shown asked (spans_of asked xs)) (append_assoc es (e ∷ []) kept)

  pub text_all : (kept es : List Entry) → ended_text asked (es ++ kept) ≡ ended_text asked es ++ text_behind asked (shown asked (spans_of asked es)) kept
  unfolding text_behind
  text_all [] es = ap (ended_text asked) (append-nil es) ∙ sym (append-nil (ended_text asked es))
  text_all (e ∷ kept) es =
      let left = left_text asked.form (at e) (shown asked (spans_of asked es)) in
      let here : ended_text asked (es ++ e ∷ []) ≡ ended_text asked es ++ left =
      ap (λ (spans : List Span). texts_of (drop 1 spans)) (spans_more es e) ∙ text_step (spans_of asked es) e in
      let rows = rows_step (spans_of asked es) e ∙ ap (shown asked) (sym (spans_more es e)) in
      ap (ended_text asked) (sym (append_assoc es (e ∷ []) kept)) ∙ text_all kept (es ++ e ∷ [])
      ∙ ap (λ t. t ++ text_behind asked (shown asked (spans_of asked (es ++ e ∷ []))) kept) here
      ∙ append_assoc (ended_text asked es) left (text_behind asked (shown asked (spans_of asked (es ++ e ∷ []))) kept)
      ∙ ap (λ (r : RowsRecord). ended_text asked es ++ (left ++ text_behind asked r kept)) (sym rows)

  -- ---- the end

  whole : (spans : List Span) → texts_of spans ≡ texts_of (drop 1 spans) ++ pending_text asked.form (shown asked spans)
  whole [] = refl
  whole (s ∷ before) = texts_more s before

  pub grid_is : (es : List Entry) → grid_text asked es ≡ ended_text asked es ++ pending_text asked.form (shown asked (spans_of asked es))
  grid_is es = whole (spans_of asked es)

  count : (spans : List Span) → lines_with (moment_in spans) (capped (length (drop 1 spans))) ≡ capped (length spans)
  count [] = refl
  count (s ∷ before) = omega arith

  pub lines_are : (es : List Entry) → lines_with (moment_in (spans_of asked es)) (capped (length (drop 1 (spans_of asked es)))) ≡ capped (length (spans_of asked es))
  lines_are es = count (spans_of asked es)

  -- what has ended of some values begins the grid of them and more
  pub grid_begins : (es kept : List Entry) → grid_text asked (es ++ kept)
      ≡ ended_text asked es ++ (text_behind asked (shown asked (spans_of asked es)) kept ++ pending_text asked.form (shown asked (spans_of asked (es ++ kept))))
  grid_begins es kept =
      grid_is (es ++ kept) ∙ ap (λ t. t ++ pending_text asked.form (shown asked (spans_of asked (es ++ kept)))) (text_all kept es)
      ∙ append_assoc (ended_text asked es) (text_behind asked (shown asked (spans_of asked es)) kept) (pending_text asked.form (shown asked (spans_of asked (es ++ kept))))
