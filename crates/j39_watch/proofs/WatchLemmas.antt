-- A watch as an account: its screen, one frame more, and its end.
use Rattle.j39_watch.proofs.Common.{Bor, ◌≡◌, ◌≤◌, ◌<◌, ◌+◌, ◌/◌, ◌^◌, ◌∙◌, ◌++◌, ◌∷◌, [], ℕ, zero, suc, Bool, true, false, List, Option, Some, ap, ap₂, append-nil, append_assoc, arith, length, length-append, map, refl, reverse, subst, sym, take, filter, if◌then◌else◌, unwrap_or, flat_map, Appends, flat_map-append, reverse-append, take-append-le, filter-append, flat_map-map, FrameRecord, stamp_micros, Origin, is_reported_in, RowRecord, AppendsFront, Begins, Closes, MakesOne, Meets, Stops, StopsAtEnd, capped, Chooses, FilterRecord, first_stamp, in_time, messages_taken, takes_message, AreHeard, Hearing, or_none, Hears, holder_of, Output, Entry, entries_of, heard_more, capped-fits, reported_leaves, heard_below_unique, pairs_of}
use Rattle.std.specs.Prelude.{option_map}
use Rattle.std.proofs.lemmas.List.{take_all}
use Rattle.j39_address.proofs.HolderLemmas.{same_holder}
use Rattle.j39_address.specs.Claim.{claims_of}
use Rattle.j39_fault_reports.proofs.CurrentLemmas.{told_all}
use Rattle.j39_fault_reports.proofs.FaultAccountLemmas.{faults_leave, in_time-append, same_times}
use Rattle.j39_watch.proofs.LatestLemmas.{came_is}
use Rattle.j39_fault_reports.specs.CurrentSoFar.{AreKept, taken_below}
use Rattle.j39_fault_reports.specs.FaultsNow.{Told, now_taken}
use Rattle.j39_fault_reports.specs.Spoken.{active_among, is_active_message}
use Rattle.j39_watch.specs.LatestSoFar.{AreLatest, LatestRow, latest_at, latest_over, latest_row}
use Rattle.j39_fault_reports.specs.News.{is_fault_group}
use Rattle.j39_watch.specs.NotesSoFar.{HasWatched, Keeps, Notes, lines_of_watch, moment_of, screen_of_watch, size_of}
use Rattle.j39_names.specs.Naming.{NamingRecord, naming_of}
use Rattle.j39_reports.specs.Summary.{firsts, values_like}
use Rattle.j39_watch.specs.ScreenSoFar.{lines_of_faults}
use Rattle.j39_watch.specs.Watch.{AreDrawn, IsDrawn, IsScreen, Latest, Line, MakesWatch, Size, begins_half, entries_asked, fault_shown_line, faults_asked, faults_shown, fitted, is_due, is_due_at, is_shown, is_there, last_stamp, latest_in, latest_of, moment_text, newest, plain, screen_lines, screen_text, value_line}
use Rattle.j39_watch.specs.WatchSoFar.{fault_lines, value_lines}
use Rattle.j39_watch.specs.declared.account.Screens.{Screens}
use Rattle.j39_watch.specs.declared.latest.Latest as code

-- ---- the lines that are shown

chosen_lines : {X Y : Type 0} (is : X → Bool) (f : X → Y) (xs : List X) → flat_map (λ x. if is x then f x ∷ [] else []) xs ≡ map f (filter is xs)
chosen_lines is f [] = refl
chosen_lines is f (x ∷ xs) = by (is x) refl (chosen_lines is f xs)
  where
    by : (b : Bool) → is x ≡ b → flat_map (λ x. if is x then f x ∷ [] else []) xs ≡ map f (filter is xs)
        → flat_map (λ x. if is x then f x ∷ [] else []) (x ∷ xs) ≡ map f (filter is (x ∷ xs))
    by true so rest = rw so (ap (λ ys. f x ∷ ys) rest)
    by false so rest = rw so rest

map_twice : {X Y Z : Type 0} (g : Y → Z) (f : X → Y) (xs : List X) → map (λ x. g (f x)) xs ≡ map g (map f xs)
map_twice g f [] = refl
map_twice g f (x ∷ xs) = ap (λ ys. g (f x) ∷ ys) (map_twice g f xs)

module _ (naming : NamingRecord) (holder : ℕ → Option ℕ) (now : ℕ) where
  row_lines : LatestRow → List Line
  row_lines row = if is_there holder row.origin.address row.origin.name then value_line naming now (latest_at now row) ∷ [] else []

  values_shown : (pairs : List (Origin × code.Latest)) (es : List Entry) → AreLatest pairs es
      → flat_map (value_lines naming holder now) pairs ≡ map (value_line naming now) (latest_in holder now es)
  unfolding row_lines
  values_shown pairs es are =
      sym (flat_map-map row_lines latest_row pairs) ∙ ap (flat_map row_lines) are
      ∙ flat_map-map row_lines (λ first. latest_over first (values_like first es)) (firsts es)
      ∙ ap (λ (g : Entry → Latest). flat_map (λ first. if is_there holder first.address first.name then value_line naming now (g first) ∷ [] else []) (firsts es))
      (λ i first. record { entry = (latest_of now es first).entry; came = came_is first (values_like first es) (now / 1000000) i })
      ∙ chosen_lines (λ e. is_there holder e.address e.name) (λ first. value_line naming now (latest_of now es first)) (firsts es)
      ∙ map_twice (value_line naming now) (latest_of now es) (filter (λ e. is_there holder e.address e.name) (firsts es))

faults_are : (naming : NamingRecord) (holder : ℕ → Option ℕ) (now : ℕ) (ns : List Told) → flat_map (fault_lines naming holder now) ns ≡ map (fault_shown_line naming now) (filter (is_shown holder) ns)
faults_are naming holder now ns = chosen_lines (is_shown holder) (fault_shown_line naming now) ns

-- ---- its screen

module _ (naming : NamingRecord) (groups : List RowRecord) (which : FilterRecord) (size : Size) (w : Screens) (F : List FrameRecord) (has : Keeps naming groups which size w F) where
  -- what stands on it, whatever the size
  lines_are : lines_of_watch which (first_stamp F) w
      ≡ screen_lines size.clock naming (holder_of w.listener) (last_stamp F) (entries_asked groups which (first_stamp F) has.heard) (faults_asked which (first_stamp F) has.faults)
  lines_are =
      let holder = holder_of w.listener in
      let first = first_stamp F in
      let moment : moment_of w ≡ last_stamp F = ap (λ o. unwrap_or o 0) has.last_is in
      let faults : flat_map (fault_lines naming holder (last_stamp F)) (taken_below which first w.places 256)
      ≡ map (fault_shown_line naming (last_stamp F)) (faults_shown holder (faults_asked which first has.faults)) =
      ap (λ (ns : List Told). flat_map (fault_lines naming holder (last_stamp F)) (now_taken which first ns))
      (told_all [] (in_time which first (active_among has.faults)) w.places has.are_kept 256 (omega arith))
      ∙ faults_are naming holder (last_stamp F) (faults_asked which first has.faults) in
      let values = values_shown naming holder (last_stamp F) (pairs_of w.values.rows) (entries_asked groups which first has.heard) has.are_latest in
      ap (λ (s : Size). lines_of_faults s.clock (naming_of w.naming) w.listener (moment_of w) (taken_below which first w.places 256) w.values) has.size_is
      ∙ ap (λ (n : NamingRecord). lines_of_faults size.clock n w.listener (moment_of w) (taken_below which first w.places 256) w.values) has.named
      ∙ ap (λ m. lines_of_faults size.clock naming w.listener m (taken_below which first w.places 256) w.values) moment
      ∙ ap₂ (λ fs vs. plain (moment_text size.clock (last_stamp F)) ∷ (fs ++ vs)) faults values

  pub screen_is : IsScreen naming groups which size F (screen_of_watch which (first_stamp F) w) (length has.heard)
      (length (fitted w.size.rows (lines_of_watch which (first_stamp F) w)))
  screen_is = record {
    heard = has.heard;
    are_heard = has.are_heard;
    faults = has.faults;
    are_faults = has.are_faults;
    holder = holder_of w.listener;
    are_holders = has.hears.knows;
    messages_are = refl;
    shown = lines_of_watch which (first_stamp F) w;
    shown_are = lines_are;
    text_is = ap (λ (s : Size). screen_text s (lines_of_watch which (first_stamp F) w)) has.size_is;
    lines_are = ap (λ (s : Size). length (fitted s.rows (lines_of_watch which (first_stamp F) w))) has.size_is;
  }

pub screens_one : (naming : NamingRecord) (groups : List RowRecord) (which : FilterRecord) (size : Size) (F : List FrameRecord) (x y : List ℕ) (m m' l l' : ℕ) → IsScreen naming groups which size F x m l → IsScreen naming groups which size F y m' l' → x ≡ y
screens_one naming groups which size F x y m m' l l' a b =
    let heard : a.heard ≡ b.heard = heard_below_unique (is_reported_in groups) (reported_leaves groups) F (length F) a.heard b.heard a.are_heard b.are_heard in
    let faults : a.faults ≡ b.faults = heard_below_unique is_fault_group faults_leave F (length F) a.faults b.faults a.are_faults b.are_faults in
    let holders : a.holder ≡ b.holder = λ i n. same_holder (claims_of F) (length (claims_of F)) n (a.holder n) (b.holder n) (a.are_holders n) (b.are_holders n) i in
    a.text_is
    ∙ ap (screen_text size) (a.shown_are
    ∙ (λ i. screen_lines size.clock naming (holders i) (last_stamp F) (entries_asked groups which (first_stamp F) (heard i)) (faults_asked which (first_stamp F) (faults i))) ∙ sym b.shown_are)
    ∙ sym b.text_is

-- ---- what is asked for

-- with more frames the first is the same
same_entries : (groups : List RowRecord) (which : FilterRecord) (F G : List FrameRecord) (heard : List Hearing) → AreHeard groups F heard
    → entries_asked groups which (first_stamp F) heard ≡ entries_asked groups which (first_stamp (F ++ G)) heard
same_entries groups which [] G heard are = ap (entries_asked groups which 0) are ∙ sym (ap (entries_asked groups which (first_stamp G)) are)
same_entries groups which (f ∷ F) G heard are = refl

entries_more : (groups : List RowRecord) (which : FilterRecord) (first : ℕ) (heard more : List Hearing)
    → entries_asked groups which first (heard ++ more) ≡ entries_asked groups which first heard ++ entries_asked groups which first more
entries_more groups which first heard more =
    ap (flat_map (entries_of groups)) (filter-append (takes_message which first) heard more)
    ∙ flat_map-append (entries_of groups) (messages_taken which first heard) (messages_taken which first more)

timely_more : (which : FilterRecord) (first : ℕ) (faults more : List Hearing)
    → in_time which first (active_among (faults ++ more)) ≡ in_time which first (active_among faults) ++ in_time which first (active_among more)
timely_more which first faults more =
    ap (in_time which first) (filter-append is_active_message faults more) ∙ in_time-append which first (active_among faults) (active_among more)

-- ---- what was drawn

module _ (naming : NamingRecord) (groups : List RowRecord) (which : FilterRecord) (size : Size) where
  abbrev drawn_at : List FrameRecord → List ℕ → Type 0
  drawn_at H now = IsDrawn naming groups which size (begins_half H) H now

  drawn_front : (n : ℕ) (F G : List FrameRecord) (t : List ℕ) → n ≤ length F → AreDrawn naming groups which size F n t → AreDrawn naming groups which size (F ++ G) n t
  drawn_front zero F G t le d = d
  drawn_front (suc n) F G t le (before, now, d, here, is) =
      (before, now, drawn_front n F G before (omega (arith, le)) d, subst (λ H. drawn_at H now) (sym (take-append-le (suc n) F G le)) here, is)

  drawn_back : (n : ℕ) (F G : List FrameRecord) (t : List ℕ) → n ≤ length F → AreDrawn naming groups which size (F ++ G) n t → AreDrawn naming groups which size F n t
  drawn_back zero F G t le d = d
  drawn_back (suc n) F G t le (before, now, d, here, is) =
      (before, now, drawn_back n F G before (omega (arith, le)) d, subst (λ H. drawn_at H now) (take-append-le (suc n) F G le) here, is)

  one_drawn : (b : Bool) (H : List FrameRecord) (x y : List ℕ) → IsDrawn naming groups which size b H x → IsDrawn naming groups which size b H y → x ≡ y
  one_drawn true H x y (m, l, a) (m', l', b) = screens_one naming groups which size H x y m m' l l' a b
  one_drawn false H x y a b = a ∙ sym b

  drawn_one : (n : ℕ) (F : List FrameRecord) (x y : List ℕ) → AreDrawn naming groups which size F n x → AreDrawn naming groups which size F n y → x ≡ y
  drawn_one zero F x y a b = a ∙ sym b
  drawn_one (suc n) F x y (xs, now, a, here, is) (ys, now', b, there, is') =
      is ∙ ap₂ (λ s t. s ++ t) (drawn_one n F xs ys a b) (one_drawn (begins_half (take (suc n) F)) (take (suc n) F) now now' here there) ∙ sym is'

  drawn_split : (k n : ℕ) (F : List FrameRecord) (t : List ℕ) → AreDrawn naming groups which size F (k + n) t → (front : List ℕ) × (rest : List ℕ) × AreDrawn naming groups which size F n front × (t ≡ front ++ rest)
  drawn_split zero n F t d = (t, [], subst (λ m. AreDrawn naming groups which size F m t) (let same : 0 + n ≡ n = omega arith in same) d, sym (append-nil t))
  drawn_split (suc k) n F t d =
      let next : suc k + n ≡ suc (k + n) = omega arith in
      by (drawn_split k n F) (subst (λ m. AreDrawn naming groups which size F m t) next d)
    where
      by : ((s : List ℕ) → AreDrawn naming groups which size F (k + n) s → (front : List ℕ) × (rest : List ℕ) × AreDrawn naming groups which size F n front × (s ≡ front ++ rest))
          → AreDrawn naming groups which size F (suc (k + n)) t → (front : List ℕ) × (rest : List ℕ) × AreDrawn naming groups which size F n front × (t ≡ front ++ rest)
      by split (before, now, d', here, is) =
          let (front, rest, f, cut) = split before d' in
          (front, rest ++ now, f, is ∙ ap (λ s. s ++ now) cut ∙ append_assoc front rest now)

  -- one frame more
  drawn_more : (F : List FrameRecord) (f : FrameRecord) (before now : List ℕ) → AreDrawn naming groups which size F (length F) before → drawn_at (F ++ f ∷ []) now
      → AreDrawn naming groups which size (F ++ f ∷ []) (length (F ++ f ∷ [])) (before ++ now)
  drawn_more F f before now d here =
      let len : length (F ++ f ∷ []) ≡ suc (length F) = let l = length-append F (f ∷ []) in omega (arith, l) in
      let all : take (suc (length F)) (F ++ f ∷ []) ≡ F ++ f ∷ [] = take_all (suc (length F)) (F ++ f ∷ []) (omega (arith, len)) in
      subst (λ n. AreDrawn naming groups which size (F ++ f ∷ []) n (before ++ now)) (sym len)
      (before, now, drawn_front (length F) F (f ∷ []) before (omega arith) d, subst (λ H. drawn_at H now) (sym all) here, refl)

  -- ---- laws

  pub watch_begins : Begins (λ bus. HasWatched naming groups which size) (MakesWatch naming groups which size)
  watch_begins = λ bus a F G before all has (drawn, last, are, screen, is).
      let len = length-append F G in
      let sum : length (F ++ G) ≡ length G + length F = omega (arith, len) in
      let (front, rest, d, cut) = drawn_split (length G) (length F) (F ++ G) drawn (subst (λ n. AreDrawn naming groups which size (F ++ G) n drawn) sum are) in
      let same : front ≡ before.text = drawn_one (length F) F front before.text (drawn_back (length F) F G front (omega arith) d) has.drawn in
      (rest ++ last, is ∙ ap (λ t. t ++ last) cut ∙ append_assoc front rest last ∙ ap (λ t. t ++ (rest ++ last)) same)

  pub watch_one : MakesOne (MakesWatch naming groups which size)
  watch_one = λ bus F x y (a, s, are, screen, is) (b, t, are', screen', is').
      is ∙ ap₂ (λ u v. u ++ v) (drawn_one (length F) F a b are are') (screens_one naming groups which size F s t _ _ _ _ screen screen') ∙ sym is'

  -- ---- one frame

  -- what is asked for of those before
  abbrev entries_before : List FrameRecord → FrameRecord → List Hearing → List Entry
  entries_before F f heard = entries_asked groups which (first_stamp (F ++ f ∷ [])) heard

  abbrev faults_before : List FrameRecord → FrameRecord → List Hearing → List Hearing
  faults_before F f faults = in_time which (first_stamp (F ++ f ∷ [])) (active_among faults)

  -- a frame more of a watch: whatever is asked for is chosen, and noted by its table; the rest of it stays
  pub record Follows (a a' : Screens) (f : FrameRecord) (messages : ℕ) : Type 0 where
    pub naming_is : a'.naming ≡ a.naming
    pub table : a'.roles.groups ≡ a.roles.groups
    pub same : a'.size ≡ a.size
    pub last : option_map stamp_micros a'.moment.last ≡ Some f.stamp
    pub sum : a'.messages ≡ capped (a.messages + messages)
    pub chooses : (asked : FilterRecord) (F : List FrameRecord) → Chooses asked a.chooser F → Chooses asked a'.chooser (F ++ f ∷ [])
    pub notes : (asked : FilterRecord) (F : List FrameRecord) (before : List Entry) (ms : List Hearing) → Hears a.listener F → Chooses asked a'.chooser (F ++ f ∷ [])
        → AreLatest (pairs_of a.values.rows) before → AreKept [] a.places ms
        → Notes a.roles.groups.now asked F f a'.listener a'.values a'.places before ms messages

  notes_by : (a a' : Screens) (f : FrameRecord) (messages : ℕ) (F : List FrameRecord) → Follows a a' f messages → (has : Keeps naming groups which size a F)
      → Notes groups which F f a'.listener a'.values a'.places (entries_before F f has.heard) (faults_before F f has.faults) messages
  notes_by a a' f messages F next has =
      subst (λ (table : List RowRecord). Notes table which F f a'.listener a'.values a'.places (entries_before F f has.heard) (faults_before F f has.faults) messages) has.by
      (next.notes which F (entries_before F f has.heard) (faults_before F f has.faults) has.hears (next.chooses which F has.chooses)
      (subst (AreLatest (pairs_of a.values.rows)) (same_entries groups which F (f ∷ []) has.heard has.are_heard) has.are_latest)
      (subst (AreKept [] a.places) (same_times which is_active_message F (f ∷ []) has.faults has.are_faults) has.are_kept))

  keeps_more : (a a' : Screens) (f : FrameRecord) (messages : ℕ) (F : List FrameRecord) → Follows a a' f messages → Keeps naming groups which size a F → Keeps naming groups which size a' (F ++ f ∷ [])
  keeps_more a a' f messages F next has =
      let n = notes_by a a' f messages F next has in
      let first = first_stamp (F ++ f ∷ []) in
      record {
        named = ap naming_of next.naming_is ∙ has.named;
        by = ap (λ (x : Bor (List RowRecord)). x.now) next.table ∙ has.by;
        size_is = ap size_of next.same ∙ has.size_is;
        last_is = next.last ∙ sym (ap newest (reverse-append F (f ∷ [])));
        chooses = next.chooses which F has.chooses;
        hears = n.hears;
        heard = has.heard ++ or_none n.heard;
        are_heard = heard_more (is_reported_in groups) F f has.heard n.heard has.are_heard n.heard_at;
        are_latest = subst (AreLatest (pairs_of a'.values.rows)) (sym (entries_more groups which first has.heard (or_none n.heard))) n.are_latest;
        faults = has.faults ++ or_none n.fault;
        are_faults = heard_more is_fault_group F f has.faults n.fault has.are_faults n.fault_at;
        are_kept = subst (AreKept [] a'.places) (sym (timely_more which first has.faults (or_none n.fault))) n.are_kept;
        messages_are = next.sum ∙ (let len = length-append has.heard (or_none n.heard) in let m = n.messages_are in let b = has.messages_are in omega (arith, len, m, b));
      }

  -- what is written at it
  abbrev pub text_if : Bool → List FrameRecord → Screens → List ℕ
  text_if draws F a = if draws then screen_of_watch which (first_stamp F) a else []

  drawn_if : (draws : Bool) (a' : Screens) (H : List FrameRecord) → Keeps naming groups which size a' H → IsDrawn naming groups which size draws H (text_if draws H a')
  drawn_if true a' H has = (length has.heard, length (fitted a'.size.rows (lines_of_watch which (first_stamp H) a')), screen_is naming groups which size a' H has)
  drawn_if false a' H has = refl

  due : (F : List FrameRecord) (f : FrameRecord) (last : Option ℕ) → last ≡ newest (reverse F) → begins_half (F ++ f ∷ []) ≡ is_due last f.stamp
  due F f last is = ap is_due_at (reverse-append F (f ∷ [])) ∙ ap (λ o. is_due o f.stamp) (sym is)

  met_more : (a a' : Screens) (f : FrameRecord) (messages : ℕ) (draws : Bool) (F : List FrameRecord) (before : Output) → Follows a a' f messages
      → draws ≡ is_due (option_map stamp_micros a.moment.last) f.stamp → HasWatched naming groups which size a F before
      → HasWatched naming groups which size a' (F ++ f ∷ []) (record { text = before.text ++ text_if draws (F ++ f ∷ []) a'; messages = 0; lines = 0 })
  met_more a a' f messages draws F before next is has =
      let keeps = keeps_more a a' f messages F next has.keeps in
      let text = text_if draws (F ++ f ∷ []) a' in
      let here = subst (λ b. IsDrawn naming groups which size b (F ++ f ∷ []) text) (is ∙ sym (due F f (option_map stamp_micros a.moment.last) has.keeps.last_is)) (drawn_if draws a' (F ++ f ∷ []) keeps) in
      record { keeps = keeps; drawn = drawn_more F f before.text text has.drawn here }

  pub watch_meets : (a a' : Screens) (f : FrameRecord) (messages : ℕ) (draws : Bool) (old new : Option (List ℕ)) → Follows a a' f messages
      → draws ≡ is_due (option_map stamp_micros a.moment.last) f.stamp → ((F : List FrameRecord) → Chooses which a'.chooser F → Appends old new (text_if draws F a'))
      → Meets (HasWatched naming groups which size) a a' (f ∷ []) old new
  watch_meets a a' f messages draws old new next is written = λ F before has. record {
    after = record { text = before.text ++ text_if draws (F ++ f ∷ []) a'; messages = 0; lines = 0 };
    met = met_more a a' f messages draws F before next is has;
    more = text_if draws (F ++ f ∷ []) a';
    text_is = refl;
    written = written (F ++ f ∷ []) (next.chooses which F has.keeps.chooses);
  }

  pub watch_stops : (a a' : Screens) (f : FrameRecord) (messages : ℕ) (draws : Bool) (bus : List ℕ) (old new : Option (List ℕ)) → Follows a a' f messages
      → draws ≡ is_due (option_map stamp_micros a.moment.last) f.stamp → ((F : List FrameRecord) → Chooses which a'.chooser F → AppendsFront old new (text_if draws F a'))
      → Stops (HasWatched naming groups which size) (MakesWatch naming groups which size bus) a (f ∷ []) old new
  watch_stops a a' f messages draws bus old new next is fronts = λ F G before all has made.
      let text = text_if draws (F ++ f ∷ []) a' in
      let (front, back, cut, appended) = fronts (F ++ f ∷ []) (next.chooses which F has.keeps.chooses) in
      let has' = met_more a a' f messages draws F before next is has in
      let (rest, whole) = watch_begins bus a' (F ++ f ∷ []) G _ all has' made in
      record {
        rest = text ++ rest;
        all_is = whole ∙ append_assoc before.text text rest;
        front = (front, back ++ rest, ap (λ t. t ++ rest) cut ∙ append_assoc front back rest, appended);
      }

  -- ---- the end

  pub watch_closes : (a : Screens) (lines : ℕ) (old new : Option (List ℕ))
      → ((F : List FrameRecord) → Chooses which a.chooser F → lines ≡ length (fitted a.size.rows (lines_of_watch which (first_stamp F) a))) → lines < 2 ^ 64
      → ((F : List FrameRecord) → Chooses which a.chooser F → Appends old new (screen_of_watch which (first_stamp F) a))
      → Closes (λ bus. HasWatched naming groups which size) (MakesWatch naming groups which size) a (record { messages = a.messages; lines = lines }) old new
  watch_closes a lines old new count fits written = λ bus F before has.
      let text = screen_of_watch which (first_stamp F) a in
      record {
        after = record { text = before.text ++ text; messages = length has.keeps.heard; lines = length (fitted a.size.rows (lines_of_watch which (first_stamp F) a)) };
        is_made = (before.text, text, has.drawn, screen_is naming groups which size a F has.keeps, refl);
        messages_are = has.keeps.messages_are;
        lines_are = sym (ap capped (sym (count F has.keeps.chooses)) ∙ capped-fits lines fits);
        more = text;
        text_is = refl;
        written = written F has.keeps.chooses;
      }

  pub watch_stops_at_end : (a : Screens) (old new : Option (List ℕ))
      → ((F : List FrameRecord) → Chooses which a.chooser F → AppendsFront old new (screen_of_watch which (first_stamp F) a))
      → StopsAtEnd (λ bus. HasWatched naming groups which size) (MakesWatch naming groups which size) a old new
  watch_stops_at_end a old new front = λ bus F before all has made.
      let text = screen_of_watch which (first_stamp F) a in
      record {
        rest = text;
        all_is = watch_one bus F all (record { text = before.text ++ text; messages = length has.keeps.heard; lines = length (fitted a.size.rows (lines_of_watch which (first_stamp F) a)) })
            made (before.text, text, has.drawn, screen_is naming groups which size a F has.keeps, refl);
        front = front F has.keeps.chooses;
      }
