-- The values of a message, one by one.
use Rattle.std.proofs.Common.{◌≡◌, ◌∙◌, ◌++◌, ◌∷◌, [], Err, List, Ok, ap, append-nil, append_assoc, false, filter, map, refl, sym, true}
use Rattle.std.proofs.lemmas.List.{map-append}
use Rattle.std.proofs.lemmas.List.Elements.{filter-append, filter_map-append}
use Rattle.j39_frame.specs.Stamp.{stamp_micros}
use Rattle.j39_groups.specs.Sightings.{SightingRecord, told_by, told_in}
use Rattle.j39_groups.specs.Value.{ReadingRecord}
use Rattle.j39_io.specs.Puts.{Puts}
use Rattle.j39_io.specs.Turn.{Device}
use Rattle.j39_io.proofs.PutsLemmas.{puts_as, puts_done, puts_failed, puts_first, puts_nothing, puts_then}
use Rattle.j39_listen.specs.Report.{Entry, entry_of}
use Rattle.j39_grid.specs.Grid.{Asked, has_column, moment_of, value_cell}
use Rattle.j39_grid.specs.GridModels.{RowsRecord, asked_of, rows_of}
use Rattle.j39_grid.specs.GridSoFar.{Begun, HasStopped, HasTaken, PutsReadings, entered, kept_of, left_text, placed, rows_behind, taken_at, text_behind}
use Rattle.j39_grid.specs.declared.rows.Rows.{Rows}

module _ (asked : Asked) where
  -- some values behind others
  rows_append : (rows : RowsRecord) (es fs : List Entry) → rows_behind asked rows (es ++ fs) ≡ rows_behind asked (rows_behind asked rows es) fs
  unfolding rows_behind
  rows_append rows [] fs = refl
  rows_append rows (e ∷ es) fs = rows_append (taken_at asked rows e) es fs

  text_append : (rows : RowsRecord) (es fs : List Entry) → text_behind asked rows (es ++ fs) ≡ text_behind asked rows es ++ text_behind asked (rows_behind asked rows es) fs
  unfolding rows_behind text_behind
  text_append rows [] fs = refl
  text_append rows (e ∷ es) fs =
      let left = left_text asked.form (moment_of asked.every e.stamp) rows in
      ap (λ t. left ++ t) (text_append (taken_at asked rows e) es fs)
      ∙ sym (append_assoc left (text_behind asked (taken_at asked rows e) es) (text_behind asked (rows_behind asked (taken_at asked rows e) es) fs))

  -- one value behind others
  rows_one : (rows : RowsRecord) (es : List Entry) (e : Entry) → rows_behind asked rows (es ++ e ∷ []) ≡ taken_at asked (rows_behind asked rows es) e
  unfolding rows_behind
  rows_one rows es e = rows_append rows es (e ∷ [])

  text_one : (rows : RowsRecord) (es : List Entry) (e : Entry)
      → text_behind asked rows (es ++ e ∷ []) ≡ text_behind asked rows es ++ left_text asked.form (moment_of asked.every e.stamp) (rows_behind asked rows es)
  unfolding text_behind
  text_one rows es e =
      text_append rows es (e ∷ []) ∙ ap (λ t. text_behind asked rows es ++ t) (append-nil (left_text asked.form (moment_of asked.every e.stamp) (rows_behind asked rows es)))

module _ (begun : Begun) where
  abbrev asked : Asked
  asked = begun.asked

  abbrev kept : List ReadingRecord → List Entry
  kept readings = kept_of asked begun.hearing readings

  kept_more : (readings more : List ReadingRecord) → kept (readings ++ more) ≡ kept readings ++ kept more
  kept_more readings more =
      ap (filter (has_column asked.spns)) (map-append (entry_of begun.hearing) readings more)
      ∙ filter-append (has_column asked.spns) (map (entry_of begun.hearing) readings) (map (entry_of begun.hearing) more)

  module _ (readings : List ReadingRecord) (r : ReadingRecord) where
    abbrev entry : Entry
    entry = entry_of begun.hearing r

    one_kept : has_column asked.spns entry ≡ true → kept (readings ++ r ∷ []) ≡ kept readings ++ entry ∷ []
    one_kept has = kept_more readings (r ∷ []) ∙ ap (λ es. kept readings ++ es) (let one : kept (r ∷ []) ≡ entry ∷ [] = rw has refl in one)

    none_kept : has_column asked.spns entry ≡ false → kept (readings ++ r ∷ []) ≡ kept readings
    none_kept has = kept_more readings (r ∷ []) ∙ ap (λ es. kept readings ++ es) (let none : kept (r ∷ []) ≡ [] = rw has refl in none) ∙ append-nil (kept readings)

    -- it has no column
    pub takes_none : (rows : Rows) (writer : Device) → has_column asked.spns entry ≡ false → HasTaken begun rows writer readings → HasTaken begun rows writer (readings ++ r ∷ [])
    takes_none rows writer none has =
        let same = none_kept none in
        record {
          asked_is = has.asked_is;
          stamp_is = has.stamp_is;
          rows_are = has.rows_are ∙ ap (rows_behind asked begun.rows) (sym same);
          written = puts_as _ _ _ _ (ap (text_behind asked begun.rows) (sym same)) has.written;
        }

    -- what it ends is that of the code
    left_is : (rows : Rows) (writer : Device) → HasTaken begun rows writer readings
        → left_text rows.asked.form (moment_of rows.asked.every (stamp_micros rows.stamp)) (rows_of rows)
        ≡ left_text asked.form (moment_of asked.every entry.stamp) (rows_behind asked begun.rows (kept readings))
    left_is rows writer has = λ i. left_text (has.asked_is i).form (moment_of (has.asked_is i).every (has.stamp_is i)) (has.rows_are i)

    -- its column has it now
    pub takes_one : {E T : Type 0} (a : T) (rows rows' : Rows) (old new : Device) → has_column asked.spns entry ≡ true → HasTaken begun rows old readings
        → asked_of rows'.asked ≡ asked_of rows.asked → stamp_micros rows'.stamp ≡ stamp_micros rows.stamp
        → rows_of rows' ≡ placed r.spn (value_cell r.value) (entered (moment_of rows.asked.every (stamp_micros rows.stamp)) (rows_of rows))
        → Puts {E = E} (left_text rows.asked.form (moment_of rows.asked.every (stamp_micros rows.stamp)) (rows_of rows)) (Ok a) (record { old = old; new = new })
        → HasTaken begun rows' new (readings ++ r ∷ [])
    takes_one {E = E} a rows rows' old new column has same stays placed_is left =
        let es = kept readings in
        record {
          asked_is = same ∙ has.asked_is;
          stamp_is = stays ∙ has.stamp_is;
          rows_are = placed_is ∙ (λ i. placed r.spn (value_cell r.value) (entered (moment_of (has.asked_is i).every (has.stamp_is i)) (has.rows_are i)))
              ∙ sym (rows_one asked begun.rows es entry) ∙ ap (rows_behind asked begun.rows) (sym (one_kept column));
          written = puts_as _ _ _ _ (sym (text_one asked begun.rows es entry) ∙ ap (text_behind asked begun.rows) (sym (one_kept column)))
              (puts_done _ a tt _ (puts_then {F = E} (text_behind asked begun.rows es) _ tt (Ok a) begun.writer old new has.written (puts_as _ _ _ _ (left_is rows old has) left)));
        }

    -- a fault came before that
    pub stops_one : {E T : Type 0} (e : E) (rows : Rows) (old new : Device) → has_column asked.spns entry ≡ true → HasTaken begun rows old readings
        → Puts {T = T} (left_text rows.asked.form (moment_of rows.asked.every (stamp_micros rows.stamp)) (rows_of rows)) (Err e) (record { old = old; new = new })
        → HasStopped begun (readings ++ r ∷ []) new
    stops_one {E = E} {T = T} e rows old new column has left =
        let es = kept readings in
        puts_as _ _ _ _ (sym (text_one asked begun.rows es entry) ∙ ap (text_behind asked begun.rows) (sym (one_kept column)))
        (puts_failed {T = T} _ e (Err tt) _ refl (puts_then {U = T} (text_behind asked begun.rows es) _ tt (Err e) begun.writer old new has.written (puts_as _ _ _ _ (left_is rows old has) left)))

  pub none_yet : (rows : Rows) → asked_of rows.asked ≡ asked → stamp_micros rows.stamp ≡ begun.hearing.stamp → rows_of rows ≡ begun.rows
      → HasTaken begun rows begun.writer []
  unfolding rows_behind text_behind
  none_yet rows same at are = record { asked_is = same; stamp_is = at; rows_are = are; written = puts_nothing tt begun.writer }

  -- a fault among the readings: a front of what they end was written
  pub stops_among : (taken : List SightingRecord) (at : SightingRecord) (rest sightings : List SightingRecord) (new : Device) → sightings ≡ taken ++ (at ∷ rest)
      → HasStopped begun (told_in (taken ++ at ∷ [])) new → PutsReadings begun new (told_in sightings) (Err tt)
  stops_among taken at rest sightings new are stopped =
      let first = told_in (taken ++ at ∷ []) in
      let cut : kept (told_in sightings) ≡ kept first ++ kept (told_in rest) =
      ap (λ xs. kept (told_in xs)) (are ∙ sym (append_assoc taken (at ∷ []) rest)) ∙ ap kept (filter_map-append told_by (taken ++ at ∷ []) rest) ∙ kept_more first (told_in rest) in
      puts_as _ _ _ _ (sym (ap (text_behind asked begun.rows) cut ∙ text_append asked begun.rows (kept first) (kept (told_in rest))))
      (puts_first (text_behind asked begun.rows (kept first)) _ tt (Err tt) _ refl stopped)
