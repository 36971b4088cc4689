-- The summary as an account: what is heard at one frame more, and its end.
use Rattle.j39_reports.proofs.Common.{Bor, ◌≡◌, ◌<◌, ◌+◌, ◌^◌, ℕ, List, [], ◌∷◌, ◌++◌, Option, Some, None, true, false, true≢false, length, map, sym, ap, ◌∙◌, subst, arith, append-nil, length-append, inl, inr, refl, ◌⊎◌, flat_map, Appends, Appends-nil, flat_map-append, length-map, map-append, filter-append, filter_map-append, pairs_of, AppendsFront, FrameRecord, is_reported_in, SightingRecord, absent, absent_by, absent_in, sightings_in, told, told_by, told_in, RowRecord, Takes, absent_are, told_are, Begins, Closes, MakesOne, Meets, StopsAtEnd, capped, Chooses, FilterRecord, first_stamp, messages_taken, takes_message, AreHeard, HeardAt, Hearing, or_none, Hears, Output, Entry, entries_of, entry_of, Chooser, Listener, heard_more, capped-fits, reported_leaves, heard_below_unique, Origin, Format, Record}
use Rattle.j39_groups.specs.Visits.{StopsAt}
use Rattle.j39_reports.specs.SummarySoFar.{HasSummed, NotesFrame}
use Rattle.j39_reports.specs.RowsSoFar.{AreCounted, AreRowsOf, GoesOn, HasTaken, Message, WantsAt, counted}
use Rattle.j39_reports.specs.Summary.{absence_of, absences_of, how_often}
use Rattle.j39_reports.specs.RowText.{summary_columns, summary_text}
use Rattle.j39_reports.specs.RowModels.{row_shown}
use Rattle.j39_reports.specs.SummaryRun.{AsksForAbsence, AsksForRow, AsksForRows, MakesSummary, MakesSummaryIn, output_of}
use Rattle.j39_reports.specs.declared.summaries.account.SummaryAccount.{SummaryAccount}
use Rattle.j39_reports.specs.declared.summaries.rows.Rows.{Rows}

-- ---- laws

pub summary_begins : (form : Format) (which : FilterRecord) (groups : List RowRecord) → Begins (λ bus. HasSummed form which groups) (MakesSummaryIn form which groups)
summary_begins form which groups = λ bus a F G before all has made.
    (all.text, ap (λ t. t ++ all.text) (sym (ap (λ (o : Output). o.text) has.nothing_yet)))

pub summary_one : (form : Format) (which : FilterRecord) (groups : List RowRecord) → MakesOne (MakesSummaryIn form which groups)
summary_one form which groups = λ bus F x y (hs, are_x, is_x) (ks, are_y, is_y).
    ap (λ (o : Output). o.text) is_x
    ∙ ap (λ (heard : List Hearing). (output_of form groups heard (messages_taken which (first_stamp F) heard)).text) (heard_below_unique (is_reported_in groups) (reported_leaves groups) F (length F) hs ks are_x are_y)
    ∙ sym (ap (λ (o : Output). o.text) is_y)

-- and behind the names of the columns
pub records_one : (which : FilterRecord) (groups : List RowRecord) → MakesOne (MakesSummary Record which groups)
records_one which groups = λ bus F x y (a, made_a, is_a) (b, made_b, is_b).
    ap (λ (o : Output). o.text) is_a ∙ ap (λ t. summary_columns ++ t) (summary_one Record which groups bus F a b made_a made_b)
    ∙ sym (ap (λ (o : Output). o.text) is_b)

-- ---- what is taken

same_first : (which : FilterRecord) (groups : List RowRecord) (F G : List FrameRecord) (heard : List Hearing) → AreHeard groups F heard
    → messages_taken which (first_stamp F) heard ≡ messages_taken which (first_stamp (F ++ G)) heard
same_first which groups [] G heard are = ap (messages_taken which 0) are ∙ sym (ap (messages_taken which (first_stamp G)) are)
same_first which groups (f ∷ F) G heard are = refl

pub one_taken : (which : FilterRecord) (first : ℕ) (h : Hearing) → takes_message which first h ≡ true → messages_taken which first (h ∷ []) ≡ h ∷ []
one_taken which first h is = rw is refl

pub none_taken : (which : FilterRecord) (first : ℕ) (h : Hearing) → takes_message which first h ≡ false → messages_taken which first (h ∷ []) ≡ []
none_taken which first h is = rw is refl

-- ---- what the rows have taken

all_taken : (message : Message) (rows : Rows) (sightings : List SightingRecord) → GoesOn message rows sightings → rows.is_refused ≡ false
    → HasTaken message rows sightings
all_taken message rows sightings goes free = elim goes [
  | inl has ↦ has.0
  | inr was ↦ absurd (true≢false (sym was.is_refused ∙ free))
]

pub where_refused : (message : Message) (rows : Rows) (sightings : List SightingRecord) → GoesOn message rows sightings → rows.is_refused ≡ true
    → StopsAt (WantsAt message) [] sightings
where_refused message rows sightings goes refused = elim goes [
  | inl has ↦ absurd (true≢false (sym refused ∙ has.1))
  | inr was ↦ was.stop
]

-- ---- one frame

pub notes_silent : (which : FilterRecord) (groups : List RowRecord) (l' : Listener) (F : List FrameRecord) (f : FrameRecord) (rows : Rows) (before : List Entry) (gone : List Origin)
    → HeardAt groups (F ++ f ∷ []) (length F) None → Hears l' (F ++ f ∷ []) → AreRowsOf (pairs_of rows.rows) before → AreCounted (pairs_of rows.absences.counts) gone
    → NotesFrame which groups F f l' rows before gone 0
notes_silent which groups l' F f rows before gone silent hears are counts = record {
  heard = None;
  heard_at = silent;
  hears = hears;
  are_rows = subst (AreRowsOf (pairs_of rows.rows)) (sym (append-nil before)) are;
  are_counted = subst (AreCounted (pairs_of rows.absences.counts)) (sym (append-nil gone)) counts;
  messages_are = refl;
}

-- a message that the filter leaves
pub notes_left : (which : FilterRecord) (groups : List RowRecord) (l' : Listener) (F : List FrameRecord) (f : FrameRecord) (h : Hearing) (rows : Rows) (before : List Entry) (gone : List Origin)
    → HeardAt groups (F ++ f ∷ []) (length F) (Some h) → Hears l' (F ++ f ∷ []) → takes_message which (first_stamp (F ++ f ∷ [])) h ≡ false
    → AreRowsOf (pairs_of rows.rows) before → AreCounted (pairs_of rows.absences.counts) gone
    → NotesFrame which groups F f l' rows before gone 1
notes_left which groups l' F f h rows before gone at hears is are counts =
    let none = none_taken which (first_stamp (F ++ f ∷ [])) h is in
    record {
      heard = Some h;
      heard_at = at;
      hears = hears;
      are_rows = subst (λ (hs : List Hearing). AreRowsOf (pairs_of rows.rows) (before ++ flat_map (entries_of groups) hs)) (sym none)
          (subst (AreRowsOf (pairs_of rows.rows)) (sym (append-nil before)) are);
      are_counted = subst (λ (hs : List Hearing). AreCounted (pairs_of rows.absences.counts) (gone ++ flat_map (absences_of groups) hs)) (sym none)
          (subst (AreCounted (pairs_of rows.absences.counts)) (sym (append-nil gone)) counts);
      messages_are = refl;
    }

pub notes_heard : (which : FilterRecord) (groups : List RowRecord) (l' : Listener) (F : List FrameRecord) (f : FrameRecord) (h : Hearing) (begun rows : Rows) (before : List Entry) (gone : List Origin)
    → HeardAt groups (F ++ f ∷ []) (length F) (Some h) → Hears l' (F ++ f ∷ []) → takes_message which (first_stamp (F ++ f ∷ [])) h ≡ true
    → HasTaken (record { before = before; absent = gone; hearing = h }) begun [] → begun.is_refused ≡ false
    → Takes {M = Unit {0}} (λ message rows medium. GoesOn message rows) begun tt rows tt (sightings_in groups h.message.pgn h.message.bytes) → rows.is_refused ≡ false
    → NotesFrame which groups F f l' rows before gone 1
notes_heard which groups l' F f h begun rows before gone at hears is begins free takes still =
    let message : Message = record { before = before; absent = gone; hearing = h } in
    let taken = all_taken message rows (sightings_in groups h.message.pgn h.message.bytes) (takes message [] (inl (begins, free))) still in
    let one = one_taken which (first_stamp (F ++ f ∷ [])) h is in
    let told = ap (map (entry_of h)) (told_are groups h.message.pgn h.message.bytes) in
    let not_there = ap (map (absence_of h)) (absent_are groups h.message.pgn h.message.bytes) in
    record {
      heard = Some h;
      heard_at = at;
      hears = hears;
      are_rows = subst (λ es. AreRowsOf (pairs_of rows.rows) (before ++ es))
          (told ∙ sym (ap (flat_map (entries_of groups)) one ∙ append-nil (entries_of groups h))) taken.are_rows;
      are_counted = subst (λ os. AreCounted (pairs_of rows.absences.counts) (gone ++ os))
          (not_there ∙ sym (ap (flat_map (absences_of groups)) one ∙ append-nil (absences_of groups h))) taken.are_counted;
      messages_are = refl;
    }

pub asks_heard : (which : FilterRecord) (groups : List RowRecord) (F : List FrameRecord) (f : FrameRecord) (h : Hearing) (heard : List Hearing)
    → HeardAt groups (F ++ f ∷ []) (length F) (Some h) → AreHeard groups F heard → takes_message which (first_stamp (F ++ f ∷ [])) h ≡ true
    → StopsAt (WantsAt (record { before = flat_map (entries_of groups) (messages_taken which (first_stamp F) heard); absent = flat_map (absences_of groups) (messages_taken which (first_stamp F) heard); hearing = h }))
    [] (sightings_in groups h.message.pgn h.message.bytes) → AsksForRows which groups F f
asks_heard which groups F f h heard at are_heard is w = inr (by w.taken w.at w.rest w.sightings_are w.stopped)
  where
    message : Message
    message = record { before = flat_map (entries_of groups) (messages_taken which (first_stamp F) heard); absent = flat_map (absences_of groups) (messages_taken which (first_stamp F) heard); hearing = h }

    by : (taken : List SightingRecord) (s : SightingRecord) (rest : List SightingRecord)
        → sightings_in groups h.message.pgn h.message.bytes ≡ taken ++ (s ∷ rest) → WantsAt message taken s
        → AsksForRow which groups F f ⊎ AsksForAbsence which groups F f
    by taken (told r) rest cut wanted = inl (record {
      heard = heard;
      are_heard = are_heard;
      now_heard = h;
      heard_now = at;
      asked_now = is;
      taken = map (entry_of h) (told_in taken);
      entry = entry_of h r;
      rest = map (entry_of h) (told_in rest);
      entries_are = ap (map (entry_of h)) (sym (told_are groups h.message.pgn h.message.bytes) ∙ ap told_in cut ∙ filter_map-append told_by taken (told r ∷ rest))
          ∙ map-append (entry_of h) (told_in taken) (r ∷ told_in rest);
      wanted = wanted;
    })
    by taken (absent spn) rest cut wanted = inr (record {
      heard = heard;
      are_heard = are_heard;
      now_heard = h;
      heard_now = at;
      asked_now = is;
      taken = map (absence_of h) (absent_in taken);
      origin = absence_of h spn;
      rest = map (absence_of h) (absent_in rest);
      absences_are = ap (map (absence_of h)) (sym (absent_are groups h.message.pgn h.message.bytes) ∙ ap absent_in cut ∙ filter_map-append absent_by taken (absent spn ∷ rest))
          ∙ map-append (absence_of h) (absent_in taken) (spn ∷ absent_in rest);
      wanted = wanted;
    })

pub summary_meets : (form : Format) (which : FilterRecord) (groups : List RowRecord) (a a' : SummaryAccount) → a'.roles.groups ≡ a.roles.groups → a'.form ≡ a.form → (f : FrameRecord) (messages : ℕ) (old : Option (List ℕ))
    → ((asked : FilterRecord) (F : List FrameRecord) → Chooses asked a.chooser F → Chooses asked a'.chooser (F ++ f ∷ []))
    → ((asked : FilterRecord) (F : List FrameRecord) (before : List Entry) → Hears a.listener F → Chooses asked a'.chooser (F ++ f ∷ []) → AreRowsOf (pairs_of a.rows.rows) before → (gone : List Origin)
    → AreCounted (pairs_of a.rows.absences.counts) gone → NotesFrame asked a.roles.groups.now F f a'.listener a'.rows before gone messages)
    → a'.messages ≡ capped (a.messages + messages) → Meets (HasSummed form which groups) a a' (f ∷ []) old old
summary_meets form which groups a a' kept same f messages old chooses notes sum = λ F before has.
    let first = first_stamp (F ++ f ∷ []) in
    let mine = messages_taken which first has.heard in
    let stays = same_first which groups F (f ∷ []) has.heard has.are_heard in
    let entries = flat_map (entries_of groups) mine in
    let gone = flat_map (absences_of groups) mine in
    let chosen = chooses which F has.chooses in
    let n = subst (λ (table : List RowRecord). NotesFrame which table F f a'.listener a'.rows entries gone messages) has.by
    (notes which F entries has.hears chosen (subst (λ (hs : List Hearing). AreRowsOf (pairs_of a.rows.rows) (flat_map (entries_of groups) hs)) stays has.are_rows) gone
    (subst (λ (hs : List Hearing). AreCounted (pairs_of a.rows.absences.counts) (flat_map (absences_of groups) hs)) stays has.are_counted)) in
    let more = or_none n.heard in
    let taken = messages_taken which first more in
    let both = filter-append (takes_message which first) has.heard more in
    let count : a'.messages ≡ capped (length (has.heard ++ more)) =
    sum ∙ (let len = length-append has.heard more in let m = n.messages_are in let b = has.messages_are in omega (arith, len, m, b)) in
    record {
      after = before;
      met = record {
        by = ap (λ (x : Bor (List RowRecord)). x.now) kept ∙ has.by;
        form_is = same ∙ has.form_is;
        chooses = chosen;
        heard = has.heard ++ more;
        are_heard = heard_more (is_reported_in groups) F f has.heard n.heard has.are_heard n.heard_at;
        hears = n.hears;
        are_rows = subst (AreRowsOf (pairs_of a'.rows.rows)) (sym (ap (flat_map (entries_of groups)) both ∙ flat_map-append (entries_of groups) mine taken)) n.are_rows;
        are_counted = subst (AreCounted (pairs_of a'.rows.absences.counts)) (sym (ap (flat_map (absences_of groups)) both ∙ flat_map-append (absences_of groups) mine taken)) n.are_counted;
        messages_are = count;
        nothing_yet = has.nothing_yet;
      };
      more = [];
      text_is = sym (append-nil before.text);
      written = Appends-nil old;
    }

-- a frame asks for memory
pub summary_asks : (form : Format) (which : FilterRecord) (groups : List RowRecord) (a : SummaryAccount) (chooser : Chooser) (f : FrameRecord)
    → ((asked : FilterRecord) (F : List FrameRecord) (heard : List Hearing) → Hears a.listener F → Chooses asked chooser (F ++ f ∷ []) → AreHeard a.roles.groups.now F heard
    → AreRowsOf (pairs_of a.rows.rows) (flat_map (entries_of a.roles.groups.now) (messages_taken asked (first_stamp F) heard))
    → AreCounted (pairs_of a.rows.absences.counts) (flat_map (absences_of a.roles.groups.now) (messages_taken asked (first_stamp F) heard)) → AsksForRows asked a.roles.groups.now F f)
    → ((asked : FilterRecord) (F : List FrameRecord) → Chooses asked a.chooser F → Chooses asked chooser (F ++ f ∷ []))
    → (F : List FrameRecord) (output : Output) → HasSummed form which groups a F output → AsksForRows which groups F f
summary_asks form which groups a chooser f asks chooses F output has =
    subst (λ (table : List RowRecord). (heard : List Hearing) → Hears a.listener F → Chooses which chooser (F ++ f ∷ []) → AreHeard table F heard
    → AreRowsOf (pairs_of a.rows.rows) (flat_map (entries_of table) (messages_taken which (first_stamp F) heard))
    → AreCounted (pairs_of a.rows.absences.counts) (flat_map (absences_of table) (messages_taken which (first_stamp F) heard)) → AsksForRows which table F f) has.by (asks which F)
    has.heard has.hears (chooses which F has.chooses) has.are_heard has.are_rows has.are_counted

-- ---- the end

abbrev written_by : Format → List RowRecord → SummaryAccount → List ℕ
written_by form groups a = summary_text form groups (counted (pairs_of a.rows.absences.counts)) (map row_shown (pairs_of a.rows.rows))

abbrev summed : Format → FilterRecord → List RowRecord → List FrameRecord → List Hearing → Output
summed form which groups F heard = output_of form groups heard (messages_taken which (first_stamp F) heard)

all_text : (form : Format) (which : FilterRecord) (groups : List RowRecord) (a : SummaryAccount) (F : List FrameRecord) (before : Output) (has : HasSummed form which groups a F before)
    → written_by a.form a.roles.groups.now a ≡ (summed form which groups F has.heard).text
all_text form which groups a F before has =
    ap (λ (f : Format). written_by f a.roles.groups.now a) has.form_is
    ∙ ap (λ (table : List RowRecord). written_by form table a) has.by
    ∙ ap (λ (often : Origin → ℕ). summary_text form groups often (map row_shown (pairs_of a.rows.rows))) (λ i o. has.are_counted o i)
    ∙ ap (summary_text form groups (how_often (flat_map (absences_of groups) (messages_taken which (first_stamp F) has.heard)))) has.are_rows

pub summary_closes : (form : Format) (which : FilterRecord) (groups : List RowRecord) (a : SummaryAccount) (lines : ℕ) (old new : Option (List ℕ)) → lines ≡ length (pairs_of a.rows.rows) → lines < 2 ^ 64
    → Appends old new (written_by a.form a.roles.groups.now a)
    → Closes (λ bus. HasSummed form which groups) (MakesSummaryIn form which groups) a (record { messages = a.messages; lines = lines }) old new
summary_closes form which groups a lines old new count fits written = λ bus F before has.
    let out = summed form which groups F has.heard in
    let rows : lines ≡ out.lines = count ∙ sym (length-map (pairs_of a.rows.rows) row_shown) ∙ ap length has.are_rows in
    record {
      after = out;
      is_made = (has.heard, has.are_heard, refl);
      messages_are = has.messages_are;
      lines_are = sym (ap capped (sym rows) ∙ capped-fits lines fits);
      more = out.text;
      text_is = ap (λ t. t ++ out.text) (sym (ap (λ (o : Output). o.text) has.nothing_yet));
      written = subst (Appends old new) (all_text form which groups a F before has) written;
    }

pub summary_stops : (form : Format) (which : FilterRecord) (groups : List RowRecord) (a : SummaryAccount) (old new : Option (List ℕ))
    → AppendsFront old new (written_by a.form a.roles.groups.now a) → StopsAtEnd (λ bus. HasSummed form which groups) (MakesSummaryIn form which groups) a old new
summary_stops form which groups a old new front = λ bus F before all has made.
    let is : all.text ≡ (summed form which groups F has.heard).text =
    summary_one form which groups bus F all (summed form which groups F has.heard) made (has.heard, has.are_heard, refl) in
    record {
      rest = all.text;
      all_is = ap (λ t. t ++ all.text) (sym (ap (λ (o : Output). o.text) has.nothing_yet));
      front = subst (AppendsFront old new) (all_text form which groups a F before has ∙ sym is) front;
    }
