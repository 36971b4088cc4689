-- What was told of a message, with one reading more, or one parameter that is not available.
use Rattle.j39_reports.proofs.Common.{◌≡◌, ◌∷◌, ◌++◌, [], ℕ, List, refl, true, append-nil, append_assoc, map, subst, sym, ap, ◌∙◌, map-append, filter_map-append, Origin, SightingRecord, absent, absent_by, absent_in, told, told_by, told_in, ReadingRecord, Entry, entry_of}
use Rattle.j39_listen.specs.Heard.{Hearing}
use Rattle.j39_reports.specs.RowsSoFar.{AreCounted, Message, WantsAt, WasRefused}
use Rattle.j39_reports.specs.declared.summaries.rows.Rows.{Rows}
use Rattle.j39_reports.specs.Summary.{absence_of}

module _ (behind : List Entry) (h : Hearing) (before : List SightingRecord) where
  abbrev entries : List SightingRecord → List Entry
  entries sightings = behind ++ map (entry_of h) (told_in sightings)

  pub told_more : (r : ReadingRecord) (e : Entry) → e ≡ entry_of h r → entries before ++ e ∷ [] ≡ entries (before ++ told r ∷ [])
  told_more r e is =
      let more = ap (map (entry_of h)) (filter_map-append told_by before (told r ∷ [])) ∙ map-append (entry_of h) (told_in before) (r ∷ []) in
      append_assoc behind (map (entry_of h) (told_in before)) (e ∷ [])
      ∙ ap (λ x. behind ++ (map (entry_of h) (told_in before) ++ x ∷ [])) is ∙ ap (λ es. behind ++ es) (sym more)

  pub told_same : (spn : ℕ) → entries before ≡ entries (before ++ absent spn ∷ [])
  told_same spn = ap (λ xs. behind ++ map (entry_of h) xs) (sym (filter_map-append told_by before (absent spn ∷ []) ∙ append-nil (told_in before)))

module _ (message : Message) (before : List SightingRecord) where
  abbrev absences : List SightingRecord → List Origin
  absences sightings = message.absent ++ map (absence_of message.hearing) (absent_in sightings)

  pub counts_keep : (pairs : List (Origin × ℕ)) (r : ReadingRecord) → AreCounted pairs (absences before) → AreCounted pairs (absences (before ++ told r ∷ []))
  counts_keep pairs r are =
      let same = filter_map-append absent_by before (told r ∷ []) ∙ append-nil (absent_in before) in
      subst (λ xs. AreCounted pairs (message.absent ++ map (absence_of message.hearing) xs)) (sym same) are

  pub counts_take : (pairs : List (Origin × ℕ)) (spn : ℕ) (o : Origin) → o ≡ absence_of message.hearing spn
      → AreCounted pairs (absences before ++ o ∷ []) → AreCounted pairs (absences (before ++ absent spn ∷ []))
  counts_take pairs spn o is are =
      let more = ap (map (absence_of message.hearing)) (filter_map-append absent_by before (absent spn ∷ [])) ∙ map-append (absence_of message.hearing) (absent_in before) (spn ∷ []) in
      subst (AreCounted pairs) (append_assoc message.absent (map (absence_of message.hearing) (absent_in before)) (o ∷ [])
      ∙ ap (λ x. message.absent ++ (map (absence_of message.hearing) (absent_in before) ++ x ∷ [])) is ∙ ap (λ os. message.absent ++ os) (sym more)) are

-- ---- where memory was refused

pub refused_now : (message : Message) (new : Rows) (before : List SightingRecord) (s : SightingRecord) → new.is_refused ≡ true → WantsAt message before s
    → WasRefused message new (before ++ s ∷ [])
refused_now message new before s refused wants = record {
  is_refused = refused;
  stop = record { taken = before; at = s; rest = []; sightings_are = refl; stopped = wants };
}

pub refused_more : (message : Message) (old new : Rows) (before : List SightingRecord) (s : SightingRecord) → new.is_refused ≡ true
    → WasRefused message old before → WasRefused message new (before ++ s ∷ [])
refused_more message old new before s refused was =
    let stop = was.stop in
    record {
      is_refused = refused;
      stop = record {
        taken = stop.taken;
        at = stop.at;
        rest = stop.rest ++ s ∷ [];
        sightings_are = ap (λ ss. ss ++ s ∷ []) stop.sightings_are ∙ append_assoc stop.taken (stop.at ∷ stop.rest) (s ∷ []);
        stopped = stop.stopped;
      };
    }
