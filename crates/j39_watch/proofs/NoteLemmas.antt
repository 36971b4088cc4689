-- What is noted at a frame.
use Rattle.j39_watch.proofs.Common.{◌≡◌, ◌||◌, ◌∙◌, ◌++◌, ◌∷◌, [], ℕ, Bool, true, false, not, List, Option, None, Some, Result, Ok, Err, OnOk, ap, append-nil, length, map, refl, subst, sym, OnErr, if◌then◌else◌, or_comm, both_ways, or_parts, map-append, filter_map-append, FrameRecord, pgn_of, is_network_group, is_reported_in, RowRecord, SightingRecord, absent, sightings_in, told, told_by, told_in, Takes, told_are, HeardAt, HeardAtWith, Hearing, LeavesNetwork, or_none, Hears, Entry, entries_of, entry_of, Listener, hears_single, outside_claims, silent_outside, reported_leaves, pairs_of, FilterRecord, first_stamp, in_time, takes_message}
use Rattle.j39_groups.specs.Visits.{Stops}
use Rattle.j39_fault_reports.proofs.FaultAccountLemmas.{faults_leave}
use Rattle.j39_fault_reports.specs.CurrentPlaces.{LastActives}
use Rattle.j39_fault_reports.specs.CurrentSoFar.{AreKept}
use Rattle.j39_fault_reports.specs.Spoken.{active_among}
use Rattle.j39_watch.specs.LatestSoFar.{AreLatest, Behind, HasFollowedMessage, WantsRoomAt}
use Rattle.j39_fault_reports.specs.News.{is_fault_group}
use Rattle.j39_watch.specs.NotesSoFar.{Notes, WantsOne, if_counts}
use Rattle.j39_watch.specs.Watch.{entries_asked}
use Rattle.j39_watch.specs.declared.values.Values.{Values}

-- ---- the values of a message

-- a message that is asked for has all of its entries
pub one_asked : (groups : List RowRecord) (which : FilterRecord) (first : ℕ) (h : Hearing) → true ≡ takes_message which first h
    → entries_asked groups which first (h ∷ []) ≡ entries_of groups h ++ []
one_asked groups which first h is = rw (sym is) refl

-- and another none
pub none_asked : (groups : List RowRecord) (which : FilterRecord) (first : ℕ) (h : Hearing) → false ≡ takes_message which first h
    → entries_asked groups which first (h ∷ []) ≡ []
none_asked groups which first h is = rw (sym is) refl

pub takes_values : (groups : List RowRecord) (h : Hearing) (begun values : Values) (before : List Entry) → HasFollowedMessage (record { before = before; hearing = h }) begun []
    → Takes {M = Unit {0}} (λ message rows medium. HasFollowedMessage message rows) begun tt values tt (sightings_in groups h.message.pgn h.message.bytes)
    → AreLatest (pairs_of values.rows) (before ++ (entries_of groups h ++ []))
takes_values groups h begun values before begins takes =
    let message : Behind = record { before = before; hearing = h } in
    let taken = takes message [] begins in
    let told = ap (map (entry_of h)) (told_are groups h.message.pgn h.message.bytes) in
    subst (λ es. AreLatest (pairs_of values.rows) (before ++ es)) (told ∙ sym (append-nil (entries_of groups h))) taken.are_latest

pub wants_value : (groups : List RowRecord) (h : Hearing) (begun values : Values) (before : List Entry) → HasFollowedMessage (record { before = before; hearing = h }) begun []
    → Stops {M = Unit {0}} (λ message rows medium. HasFollowedMessage message rows) (λ message before at rows medium. WantsRoomAt message before at) begun tt values tt (sightings_in groups h.message.pgn h.message.bytes)
    → WantsOne groups before h
wants_value groups h begun values before begins stops =
    let w = stops message [] begins in
    by w.taken w.at w.rest w.sightings_are w.stopped
  where
    message : Behind
    message = record { before = before; hearing = h }

    by : (taken : List SightingRecord) (s : SightingRecord) (rest : List SightingRecord)
        → sightings_in groups h.message.pgn h.message.bytes ≡ taken ++ (s ∷ rest) → WantsRoomAt message taken s → WantsOne groups before h
    by taken (told r) rest cut wanted = record {
      taken = map (entry_of h) (told_in taken);
      entry = entry_of h r;
      rest = map (entry_of h) (told_in rest);
      entries_are = ap (map (entry_of h)) (sym (told_are groups h.message.pgn h.message.bytes) ∙ ap told_in cut ∙ filter_map-append told_by taken (told r ∷ rest))
          ∙ map-append (entry_of h) (told_in taken) (r ∷ told_in rest);
      wanted = wanted;
    }
    by taken (absent spn) rest cut wanted = absurd wanted

-- ---- which of the two a message is

-- no group that is heard in one frame is the network's
pub neither_network : (groups : List RowRecord) (pgn : ℕ) → (is_reported_in groups pgn || is_fault_group pgn) ≡ true → is_network_group pgn ≡ false
neither_network groups pgn single = by (is_network_group pgn) refl
  where
    by : (b : Bool) → is_network_group pgn ≡ b → is_network_group pgn ≡ false
    by false is = is
    by true is =
        let none : (is_reported_in groups pgn || is_fault_group pgn) ≡ false = rw (reported_leaves groups pgn is, faults_leave pgn is) refl in
        absurd (both_ways _ none single)

-- a message, if it counts
abbrev pub counted : Bool → Option Hearing → Option Hearing
counted counts o = if counts then o else None

-- what is heard in one frame of a group that is of one kind or of the other, by that kind
pub by_kind : (singles : ℕ → Bool) → LeavesNetwork singles → (l : Listener) (F : List FrameRecord) (f : FrameRecord) (own other : Bool) (o : Option Hearing)
    → singles (pgn_of f.id) ≡ own → ((own || other) ≡ true → is_network_group (pgn_of f.id) ≡ false)
    → ((singles' : ℕ → Bool) → LeavesNetwork singles' → singles' (pgn_of f.id) ≡ (own || other) → HeardAtWith singles' (F ++ f ∷ []) (length F) o)
    → Hears l F → HeardAtWith singles (F ++ f ∷ []) (length F) (counted (own || not other) o)
by_kind singles leaves l F f true true o is free at h = at singles leaves is
by_kind singles leaves l F f true false o is free at h = at singles leaves is
by_kind singles leaves l F f false false o is free at h = at singles leaves is
by_kind singles leaves l F f false true o is free at h = silent_outside singles leaves l F f (free refl) is h

-- as one of values
pub of_values : (groups : List RowRecord) (l : Listener) (F : List FrameRecord) (f : FrameRecord) (r a single has : Bool) (o : Option Hearing)
    → is_reported_in groups (pgn_of f.id) ≡ r → is_fault_group (pgn_of f.id) ≡ a → single ≡ (r || a) → has ≡ (r || not a)
    → ((singles : ℕ → Bool) → LeavesNetwork singles → singles (pgn_of f.id) ≡ single → HeardAtWith singles (F ++ f ∷ []) (length F) o)
    → Hears l F → HeardAt groups (F ++ f ∷ []) (length F) (counted has o)
of_values groups l F f r a single has o is_r is_a is_single is_has at h =
    subst (λ counts. HeardAt groups (F ++ f ∷ []) (length F) (counted counts o)) (sym is_has)
    (by_kind (is_reported_in groups) (reported_leaves groups) l F f r a o is_r (λ one. neither_network groups (pgn_of f.id) ((λ i. is_r i || is_a i) ∙ one))
    (λ singles leaves is. at singles leaves (is ∙ sym is_single)) h)

-- as one of faults
pub of_faults : (groups : List RowRecord) (l : Listener) (F : List FrameRecord) (f : FrameRecord) (r a single has : Bool) (o : Option Hearing)
    → is_reported_in groups (pgn_of f.id) ≡ r → is_fault_group (pgn_of f.id) ≡ a → single ≡ (r || a) → has ≡ (a || not r)
    → ((singles : ℕ → Bool) → LeavesNetwork singles → singles (pgn_of f.id) ≡ single → HeardAtWith singles (F ++ f ∷ []) (length F) o)
    → Hears l F → HeardAtWith is_fault_group (F ++ f ∷ []) (length F) (counted has o)
of_faults groups l F f r a single has o is_r is_a is_single is_has at h =
    subst (λ counts. HeardAtWith is_fault_group (F ++ f ∷ []) (length F) (counted counts o)) (sym is_has)
    (by_kind is_fault_group faults_leave l F f a r o is_a (λ one. neither_network groups (pgn_of f.id) ((λ i. is_r i || is_a i) ∙ or_comm r a ∙ one))
    (λ singles leaves is. at singles leaves (is ∙ or_comm a r ∙ sym is_single)) h)

pub counted_none : (counts : Bool) → counted counts None ≡ None
counted_none true = refl
counted_none false = refl

pub counted_list : (counts : Bool) (h : Hearing) → or_none (counted counts (Some h)) ≡ if_counts counts h
counted_list true h = refl
counted_list false h = refl

-- ---- what was noted

module _ (groups : List RowRecord) (which : FilterRecord) (F : List FrameRecord) (f : FrameRecord) where
  -- nothing was heard
  pub notes_silent : (l' : Listener) (values : Values) (places : LastActives) (before : List Entry) (ms : List Hearing)
      → HeardAt groups (F ++ f ∷ []) (length F) None → HeardAtWith is_fault_group (F ++ f ∷ []) (length F) None → Hears l' (F ++ f ∷ [])
      → AreLatest (pairs_of values.rows) before → AreKept [] places ms → Notes groups which F f l' values places before ms 0
  notes_silent l' values places before ms at fault_at hears are kept = record {
    heard = None;
    heard_at = at;
    fault = None;
    fault_at = fault_at;
    hears = hears;
    are_latest = subst (AreLatest (pairs_of values.rows)) (sym (append-nil before)) are;
    are_kept = subst (AreKept [] places) (sym (append-nil ms)) kept;
    messages_are = refl;
  }

  -- nor can it be at a frame of a group that is neither the network's nor heard in one frame
  pub notes_other : (l : Listener) (values : Values) (places : LastActives) (before : List Entry) (ms : List Hearing)
      → (is_reported_in groups (pgn_of f.id) || is_fault_group (pgn_of f.id)) ≡ false → is_network_group (pgn_of f.id) ≡ false → Hears l F
      → AreLatest (pairs_of values.rows) before → AreKept [] places ms → Notes groups which F f l values places before ms 0
  notes_other l values places before ms other free h are kept =
      let neither = or_parts _ _ other in
      notes_silent l values places before ms (silent_outside (is_reported_in groups) (reported_leaves groups) l F f free neither.0 h)
      (silent_outside is_fault_group faults_leave l F f free neither.1 h) (hears_single l F f free (outside_claims f free) h) are kept

  -- a message was, and counts as one of values, or of faults
  pub notes_heard : (l' : Listener) (values : Values) (places : LastActives) (before : List Entry) (ms : List Hearing)
      (messages : ℕ) (h : Hearing) (has_values has_faults : Bool)
      → HeardAt groups (F ++ f ∷ []) (length F) (counted has_values (Some h)) → HeardAtWith is_fault_group (F ++ f ∷ []) (length F) (counted has_faults (Some h))
      → Hears l' (F ++ f ∷ []) → AreLatest (pairs_of values.rows) (before ++ entries_asked groups which (first_stamp (F ++ f ∷ [])) (if_counts has_values h))
      → AreKept [] places (ms ++ in_time which (first_stamp (F ++ f ∷ [])) (active_among (if_counts has_faults h))) → messages ≡ length (if_counts has_values h)
      → Notes groups which F f l' values places before ms messages
  notes_heard l' values places before ms messages h has_values has_faults at fault_at hears are kept count = record {
    heard = counted has_values (Some h);
    heard_at = at;
    fault = counted has_faults (Some h);
    fault_at = fault_at;
    hears = hears;
    are_latest = subst (λ hs. AreLatest (pairs_of values.rows) (before ++ entries_asked groups which (first_stamp (F ++ f ∷ [])) hs)) (sym (counted_list has_values h)) are;
    are_kept = subst (λ hs. AreKept [] places (ms ++ in_time which (first_stamp (F ++ f ∷ [])) (active_among hs))) (sym (counted_list has_faults h)) kept;
    messages_are = count ∙ ap length (sym (counted_list has_values h));
  }

-- what is so of a bad answer
pub written_front : {T E : Type 0} (r : Result T E) (e : E) (P : Type 0) → r ≡ Err e → OnErr r P → P
written_front (Ok x) e P is p = absurd (cc is)
written_front (Err f) e P is p = p

-- what is so of a good answer, whatever is asked for
pub each_on_ok : {T E : Type 0} (r : Result T E) (C P : FilterRecord → List FrameRecord → Type 0)
    → ((which : FilterRecord) (F : List FrameRecord) → C which F → OnOk r (P which F)) → OnOk r ((which : FilterRecord) (F : List FrameRecord) → C which F → P which F)
each_on_ok (Ok x) C P each = each
each_on_ok (Err e) C P each = tt
