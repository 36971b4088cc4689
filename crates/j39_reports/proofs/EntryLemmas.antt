-- The entries of a message in whatever form, reading by reading.
use Rattle.j39_reports.proofs.Common.{◌+◌, Ok, arith, length-append, ◌≡◌, ◌∙◌, ◌++◌, ◌∷◌, ℕ, List, [], Result, Err, append_assoc, append-nil, map, ap, refl, sym, flat_map, flat_map-append, map-append, filter_map-append, Puts, Device, puts_as, puts_done, puts_failed, puts_first, puts_nothing, puts_then, SightingRecord, told_by, told_in, ReadingRecord, capped, Form, entry_of}
use Rattle.j39_reports.specs.Forwards.{Gathers}
use Rattle.j39_reports.specs.MessageEntries.{Begun, HasStopped, HaveWritten, PutsReadings, readings_text}

module _ (form : Form) (begun : Begun) where
  abbrev entry : ReadingRecord → List ℕ
  entry at = form begun.groups (entry_of begun.hearing at)

  -- the text of these readings and of those behind them
  text_of_both : (before rest : List ReadingRecord) → readings_text form begun (before ++ rest) ≡ readings_text form begun before ++ readings_text form begun rest
  text_of_both before rest =
      ap (flat_map (form begun.groups)) (map-append (entry_of begun.hearing) before rest)
      ∙ flat_map-append (form begun.groups) (map (entry_of begun.hearing) before) (map (entry_of begun.hearing) rest)

  module _ (before : List ReadingRecord) (at : ReadingRecord) where
    whole : readings_text form begun before ++ entry at ≡ readings_text form begun (before ++ (at ∷ []))
    whole = sym (text_of_both before (at ∷ []) ∙ ap (λ t. readings_text form begun before ++ t) (append-nil (entry at)))

    -- behind the others
    this_too : (done waits out after : List ℕ) → done ++ waits ≡ readings_text form begun before → out ++ after ≡ waits ++ entry at
        → (done ++ out) ++ after ≡ readings_text form begun (before ++ (at ∷ []))
    this_too done waits out after all this =
        append_assoc done out after ∙ ap (λ t. done ++ t) this ∙ sym (append_assoc done waits (entry at)) ∙ ap (λ t. t ++ entry at) all ∙ whole

    -- it was taken
    pub takes_this : {T E : Type 0} (lines more : ℕ) (a : T) (old new : Device) (waits after : List ℕ) → HaveWritten form begun lines old waits before
        → more ≡ capped (lines + 1) → Gathers {E = E} waits (entry at) after (Ok a) (record { old = old; new = new })
        → HaveWritten form begun more new after (before ++ (at ∷ []))
    takes_this lines more a old new waits after has sum this = record {
      done = has.done ++ this.out;
      written = puts_then has.done this.out tt (Ok tt) begun.writer old new has.written (puts_done _ a tt _ this.puts);
      all = this_too has.done waits this.out after has.all this.all;
      lines_are = sum ∙ (let len = length-append before (at ∷ []) in let b = has.lines_are in omega (arith, len, b));
    }

    -- a fault in this one, or in those that waited
    pub stops_here : {T E : Type 0} (e : E) (lines : ℕ) (old new : Device) (waits after : List ℕ) → HaveWritten form begun lines old waits before
        → Gathers {T = T} waits (entry at) after (Err e) (record { old = old; new = new }) → HasStopped form begun (before ++ (at ∷ [])) new
    stops_here {T = T} e lines old new waits after has stopped =
        puts_as _ _ _ _ (sym (append-nil (has.done ++ stopped.out)) ∙ this_too has.done waits stopped.out [] has.all (append-nil stopped.out ∙ stopped.front))
        (puts_then has.done stopped.out tt (Err tt) begun.writer old new has.written (puts_failed {T = T} _ e (Err tt) _ refl stopped.puts))

  pub none_yet : (lines : ℕ) (waits : List ℕ) → lines ≡ 0 → waits ≡ [] → HaveWritten form begun lines begun.writer waits []
  none_yet lines waits none empty = record { done = []; written = puts_nothing tt begun.writer; all = empty; lines_are = none }

  -- what waits was written, or a front of it
  pub puts_waiting : {T E : Type 0} (lines : ℕ) (old new : Device) (waits : List ℕ) (readings : List ReadingRecord) (last : Result T E)
      → HaveWritten form begun lines old waits readings → Puts waits last (record { old = old; new = new })
      → Puts (readings_text form begun readings) last (record { old = begun.writer; new = new })
  puts_waiting lines old new waits readings last has this =
      puts_as _ _ _ _ has.all (puts_then has.done waits tt last begun.writer old new has.written this)

  -- a fault among the readings: a front of their text was written
  pub stops_among : (taken : List SightingRecord) (at : SightingRecord) (rest sightings : List SightingRecord) (new : Device) → sightings ≡ taken ++ (at ∷ rest)
      → HasStopped form begun (told_in (taken ++ at ∷ [])) new → PutsReadings form begun new (told_in sightings) (Err tt)
  stops_among taken at rest sightings new are stopped =
      let before = told_in (taken ++ at ∷ []) in
      let cut : readings_text form begun (told_in sightings) ≡ readings_text form begun before ++ readings_text form begun (told_in rest) =
      ap (λ xs. readings_text form begun (told_in xs)) (are ∙ sym (append_assoc taken (at ∷ []) rest))
      ∙ ap (readings_text form begun) (filter_map-append told_by (taken ++ at ∷ []) rest) ∙ text_of_both before (told_in rest) in
      puts_as _ _ _ _ (sym cut) (puts_first {T = Unit} (readings_text form begun before) (readings_text form begun (told_in rest)) tt (Err tt) _ refl stopped)
