-- The readings of one parameter of one controller in a message, reading by reading.
use Rattle.std.proofs.Common.{◌+◌, Ok, arith, length-append, ◌≡◌, ◌∙◌, ◌&&◌, ◌==◌, ◌++◌, ◌∷◌, ℕ, Bool, List, [], Option, Result, Err, if◌then◌else◌, append_assoc, append-nil, map, ap, refl, subst, sym}
use Rattle.std.specs.List.{flat_map}
use Rattle.std.proofs.lemmas.Grind.{flat_map-append}
use Rattle.std.proofs.lemmas.List.{map-append}
use Rattle.std.proofs.lemmas.List.Elements.{filter_map-append}
use Rattle.j39_io.specs.Puts.{Puts}
use Rattle.j39_io.specs.Turn.{Device}
use Rattle.j39_io.proofs.PutsLemmas.{puts_as, puts_done, puts_failed, puts_first, puts_nothing, puts_then}
use Rattle.j39_groups.specs.Sightings.{SightingRecord, told_by, told_in}
use Rattle.j39_groups.specs.Value.{ReadingRecord, ValueRecord}
use Rattle.j39_groups.specs.Visits.{Stops, Takes}
use Rattle.j39_listen.specs.Counting.{capped}
use Rattle.j39_listen.specs.Heard.{Hearing}
use Rattle.j39_listen.specs.Report.{entry_of}
use Rattle.j39_web.specs.Series.{point_bytes, series_text}
use Rattle.j39_web.specs.SeriesSoFar.{Begun, HasStopped, HasWritten, IsBegun, PutsReadings, readings_text}
use Rattle.j39_web.specs.declared.points.Points.{Points}
use Rattle.j39_web.specs.declared.points.SeriesOrigin.{SeriesOrigin}

-- ---- reading by reading

-- what is told of a reading
told_is : (of : SeriesOrigin) (h : Hearing) (points : Points) → IsBegun of h points → (spn : ℕ) (value : ValueRecord) (is_asked : Bool)
    → is_asked ≡ (points.is_from && spn == points.spn)
    → series_text of (entry_of h (record { spn = spn; value = value })) ≡ (if is_asked then point_bytes points.stamp value else [])
told_is of h points begun spn value is_asked asked = rw (asked, begun.from_is, begun.spn_is, begun.stamp_is) refl

-- the text of one reading more
text_more : (begun : Begun) (before : List ReadingRecord) (at : ReadingRecord)
    → readings_text begun (before ++ (at ∷ [])) ≡ readings_text begun before ++ series_text begun.of (entry_of begun.hearing at)
text_more begun before at =
    ap (flat_map (series_text begun.of)) (map-append (entry_of begun.hearing) before (at ∷ []))
    ∙ flat_map-append (series_text begun.of) (map (entry_of begun.hearing) before) (entry_of begun.hearing at ∷ [])
    ∙ ap (λ t. readings_text begun before ++ t) (append-nil (series_text begun.of (entry_of begun.hearing at)))

module _ (begun : Begun) (points : Points) (old : Device) (before : List ReadingRecord) (has : HasWritten begun points old before) (spn : ℕ) (value : ValueRecord)
    (is_asked : Bool) (asked : is_asked ≡ (points.is_from && spn == points.spn)) where
  abbrev told : List ℕ
  told = if is_asked then point_bytes points.stamp value else []

  abbrev with_this : List ReadingRecord
  with_this = before ++ (record { spn = spn; value = value } ∷ [])

  whole : readings_text begun before ++ told ≡ readings_text begun with_this
  whole = sym (text_more begun before (record { spn = spn; value = value })
      ∙ ap (λ t. readings_text begun before ++ t) (told_is begun.of begun.hearing points has.is_begun spn value is_asked asked))

  -- behind the others, what came of this one
  pub this_too : {T E : Type 0} (last : Result T E) (new : Device) → Puts told last (record { old = old; new = new })
      → Puts (readings_text begun with_this) last (record { old = begun.writer; new = new })
  this_too last new this = puts_as _ _ _ _ whole (puts_then (readings_text begun before) told tt last begun.writer old new has.written this)

  -- it was written
  pub takes_this : {T E : Type 0} (points' : Points) (a : T) (new : Device) → IsBegun begun.of begun.hearing points' → points'.lines ≡ capped (points.lines + 1)
      → Puts {E = E} told (Ok a) (record { old = old; new = new }) → HasWritten begun points' new with_this
  takes_this points' a new is sum this = record {
    is_begun = is;
    written = this_too (Ok tt) new (puts_done _ a tt _ this);
    lines_are = sum ∙ (let len = length-append before (record { spn = spn; value = value } ∷ []) in let b = has.lines_are in omega (arith, len, b));
  }

  -- a fault in this one
  pub stops_here : {T E : Type 0} (e : E) (new : Device) → Puts {T = T} told (Err e) (record { old = old; new = new })
      → HasStopped begun with_this new
  stops_here {T = T} e new stopped = this_too (Err tt) new (puts_failed {T = T} _ e (Err tt) _ refl stopped)

-- all readings of a message
module _ (of : SeriesOrigin) (h : Hearing) (writer : Device) (points : Points) (is : IsBegun of h points) (none : points.lines ≡ 0) where
  abbrev start : Begun
  start = record { of = of; hearing = h; writer = writer }

  nothing_yet : HasWritten start points writer []
  nothing_yet = record { is_begun = is; written = puts_nothing tt writer; lines_are = none }

  pub puts_all : (points' : Points) (new : Device) (sightings : List SightingRecord)
      → Takes (λ subject points'' written taken. HasWritten subject points'' written (told_in taken)) points writer points' new sightings
      → HasWritten start points' new (told_in sightings)
  puts_all points' new sightings takes = takes start [] nothing_yet

  pub stops_among : (points' : Points) (new : Device) (sightings : List SightingRecord)
      → Stops (λ subject points'' written taken. HasWritten subject points'' written (told_in taken))
      (λ subject before at points'' stopped. HasStopped subject (told_in (before ++ at ∷ [])) stopped) points writer points' new sightings
      → PutsReadings start new (told_in sightings) (Err tt)
  stops_among points' new sightings stops =
      let w = stops start [] nothing_yet in
      let before = told_in (w.taken ++ w.at ∷ []) in
      let rest = told_in w.rest in
      let whole : readings_text start (told_in sightings) ≡ readings_text start before ++ readings_text start rest =
      ap (λ xs. readings_text start (told_in xs)) (w.sightings_are ∙ sym (append_assoc w.taken (w.at ∷ []) w.rest))
      ∙ ap (readings_text start) (filter_map-append told_by (w.taken ++ w.at ∷ []) w.rest)
      ∙ ap (flat_map (series_text of)) (map-append (entry_of h) before rest)
      ∙ flat_map-append (series_text of) (map (entry_of h) before) (map (entry_of h) rest) in
      puts_as _ _ _ _ (sym whole) (puts_first {T = Unit} (readings_text start before) (readings_text start rest) tt (Err tt) _ refl w.stopped)
