-- The rows of a summary, one after the other.
use Rattle.j39_reports.proofs.Common.{◌≡◌, ◌<◌, ◌+◌, ◌++◌, ℕ, List, Some, Result, Ok, Err, length, take, map, ap, sym, ◌∙◌, IsErr, slice_get, flat_map, flat_map-map, get_or_from_slice_get, Puts, Device, puts_as, puts_done, puts_then, puts_until, flat_map-next, RowRecord, Origin, Format}
use Rattle.j39_reports.specs.RowText.{row_in, summary_text}
use Rattle.j39_reports.specs.Summary.{origin_of}
use Rattle.j39_reports.specs.RowModels.{row_shown}
use Rattle.j39_reports.specs.declared.summaries.statistics.Statistics.{Statistics}

abbrev line : Format → List RowRecord → (Origin → ℕ) → Origin × Statistics → List ℕ
line form groups absent row = row_in form groups (absent row.0) (row_shown row)

module _ (form : Format) (groups : List RowRecord) (absent : Origin → ℕ) where
  abbrev pub lines : List (Origin × Statistics) → List ℕ
  lines rows = summary_text form groups absent (map row_shown rows)

  lines_are : (rows : List (Origin × Statistics)) → lines rows ≡ flat_map (line form groups absent) rows
  lines_are rows = flat_map-map (λ row. row_in form groups (absent (origin_of row.first)) row) row_shown rows

  lines_next : (rows : List (Origin × Statistics)) (i : ℕ) (row : Origin × Statistics) → i < length rows → slice_get rows i ≡ Some row
      → lines (take (i + 1) rows) ≡ lines (take i rows) ++ line form groups absent row
  lines_next rows i row below is =
      lines_are (take (i + 1) rows) ∙ flat_map-next (line form groups absent) rows i row below
      ∙ ap (λ r. flat_map (line form groups absent) (take i rows) ++ line form groups absent r) (get_or_from_slice_get rows i row row is)
      ∙ ap (λ t. t ++ line form groups absent row) (sym (lines_are (take i rows)))

  pub row_more : {E F G : Type 0} (rows : List (Origin × Statistics)) (i : ℕ) (row : Origin × Statistics) (old mid new : Device) → i < length rows → slice_get rows i ≡ Some row
      → Puts {T = Unit} {E = E} (lines (take i rows)) (Ok tt) (record { old = old; new = mid })
      → Puts {T = Unit} {E = F} (line form groups absent row) (Ok tt) (record { old = mid; new = new })
      → Puts {T = Unit} {E = G} (lines (take (i + 1) rows)) (Ok tt) (record { old = old; new = new })
  row_more rows i row old mid new below is before here =
      puts_as _ _ _ _ (sym (lines_next rows i row below is)) (puts_then _ _ tt (Ok tt) old mid new before (puts_done _ tt tt _ here))

  pub row_stops : {T U E F G : Type 0} (rows : List (Origin × Statistics)) (i : ℕ) (row : Origin × Statistics) (e : E) (last : Result U F) (old mid new : Device)
      → i < length rows → slice_get rows i ≡ Some row → IsErr last
      → Puts {T = Unit} {E = G} (lines (take i rows)) (Ok tt) (record { old = old; new = mid })
      → Puts {T = T} (line form groups absent row) (Err e) (record { old = mid; new = new }) → Puts (lines rows) last (record { old = old; new = new })
  row_stops {T = T} rows i row e last old mid new below is failed before here =
      puts_as _ _ _ _ (sym (lines_are rows)) (puts_until {V = T} (line form groups absent) rows i row tt e last old mid new below failed
      (puts_as _ _ _ _ (lines_are (take i rows)) before) (puts_as _ _ _ _ (ap (line form groups absent) (sym (get_or_from_slice_get rows i row row is))) here))
