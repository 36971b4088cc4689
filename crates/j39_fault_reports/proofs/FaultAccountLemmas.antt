-- What is told of more messages, and of more frames.
use Rattle.j39_fault_reports.proofs.Common.{◌≡◌, ◌∙◌, ◌+◌, ◌<◌, ◌≤◌, ℕ, zero, suc, true, false, List, [], ◌∷◌, ◌++◌, Option, Some, None, ap, append-nil, append_assoc, arith, filter, inl, inr, length, length-append, refl, slice_get, subst, sym, take, cases_Bool, cond-true, cond-false, flat_map-append, take-append-le, filter-append, Appends, Appends-nil, FrameRecord, Begins, MakesOne, Meets, Stops, capped, Chooses, FilterRecord, first_stamp, in_time, is_in_time, takes_message, Chooser, AreHeardWith, Hearing, LeavesNetwork, or_none, Hears, Output, made_of, made_sum, Made, heard_more, capped-sum, same_made, heard_below_unique, heard_first, Bool, count_by, if◌then◌else◌, Clock, Format, Line}
use Rattle.j39_fault_reports.specs.Faults.{Fault, Manner, asks_fault, faults_taken, lines_in, says_asked}
use Rattle.j39_fault_reports.specs.Told.{told, told_below, told_here}
use Rattle.j39_fault_reports.specs.News.{Chosen, chosen_of, faults_among, is_fault_group, is_of_faults}
use Rattle.j39_fault_reports.specs.FaultAsking.{AsksForFaults}
use Rattle.j39_fault_reports.specs.FaultRun.{MakesFaults, MakesFaultsIn, faults_of}
use Rattle.j39_fault_reports.specs.FaultRows.{fault_in, faults_text}
use Rattle.j39_fault_reports.specs.Remembered.{Remembers}
use Rattle.j39_fault_reports.specs.FaultsSoFar.{HasTold, MeetsFrame, StopsFrame, Subject, Tells, added, announced_in, manner_of, told_next, with_either, with_frame}
use Rattle.j39_fault_reports.specs.Broken.{announces_codes, is_whole}
use Rattle.j39_listen.specs.Counting.{one_if}
use Rattle.j39_fault_reports.specs.declared.fault_news.announced.Announced.{Announced}
use Rattle.j39_fault_reports.proofs.AskedLemmas.{taken_next}
use Rattle.j39_listen.proofs.CountLemmas.{capped_sum, count_by-append, count_here}
use Rattle.j39_fault_reports.specs.declared.fault_news.account.FaultNews.{FaultNews}
use Rattle.j39_fault_reports.specs.declared.fault_news.form.Writing.{Writing}
use Rattle.j39_fault_reports.specs.declared.fault_news.last_faults.LastFaults.{LastFaults}

-- ---- messages between the moments

module _ (which : FilterRecord) (first : ℕ) where
  pub in_time-append : (xs ys : List Hearing) → in_time which first (xs ++ ys) ≡ in_time which first xs ++ in_time which first ys
  in_time-append xs ys = filter-append (λ (h : Hearing). is_in_time which first h.stamp) xs ys

  pub in_time_yes : (h : Hearing) → is_in_time which first h.stamp ≡ true → in_time which first (h ∷ []) ≡ h ∷ []
  in_time_yes h is = cond-true _ _ _ is

  pub in_time_no : (h : Hearing) → is_in_time which first h.stamp ≡ false → in_time which first (h ∷ []) ≡ []
  in_time_no h isnt = cond-false _ _ _ isnt

-- with more frames the first is the same
pub same_times : (which : FilterRecord) (p : Hearing → Bool) (F G : List FrameRecord) (heard : List Hearing) → AreHeardWith is_fault_group F heard
    → in_time which (first_stamp F) (filter p heard) ≡ in_time which (first_stamp (F ++ G)) (filter p heard)
same_times which p [] G heard are =
    ap (λ (hs : List Hearing). in_time which 0 (filter p hs)) are ∙ sym (ap (λ (hs : List Hearing). in_time which (first_stamp G) (filter p hs)) are)
same_times which p (f ∷ F) G heard are = refl

-- ---- the texts

pub faults_text-append : (form : Format) (rows : Manner) (xs ys : List Fault) → faults_text form rows (xs ++ ys) ≡ faults_text form rows xs ++ faults_text form rows ys
unfolding faults_text
faults_text-append form rows xs ys = flat_map-append (fault_in form rows) xs ys

pub faults_text-none : (form : Format) (rows : Manner) → faults_text form rows [] ≡ []
unfolding faults_text
faults_text-none form rows = refl

told_none : (which : Chosen) → told which [] ≡ []
unfolding told_below
told_none which = refl

none_taken : (which : Chosen) (first : ℕ) → faults_taken which.asked first (told which []) ≡ []
none_taken which first = ap (faults_taken which.asked first) (told_none which)

pub none_told : (form : Format) (rows : Manner) (which : Chosen) → (faults_of form rows which 0 []).text ≡ []
none_told form rows which = ap (faults_text form rows) (none_taken which 0) ∙ faults_text-none form rows

pub none_made : (form : Format) (rows : Manner) (which : Chosen) → (record { messages = 0; lines = 0 }) ≡ made_of (faults_of form rows which 0 [])
none_made form rows which = same_made _ _ refl (sym (ap (λ (fs : List Fault). capped (lines_in rows fs)) (none_taken which 0)))

-- of no messages nothing is told, whatever the stamp of the first frame
same_none : (form : Format) (rows : Manner) (which : Chosen) (a b : ℕ) → faults_of form rows which a [] ≡ faults_of form rows which b []
same_none form rows which a b =
    let same = none_taken which a ∙ sym (none_taken which b) in
    λ i. record { text = faults_text form rows (same i); messages = 0; lines = lines_in rows (same i) }

-- with more frames the first is the same
same_first : (form : Format) (rows : Manner) (which : Chosen) (F G : List FrameRecord) (heard : List Hearing) → AreHeardWith is_fault_group F heard
    → faults_of form rows which (first_stamp F) (faults_among heard) ≡ faults_of form rows which (first_stamp (F ++ G)) (faults_among heard)
same_first form rows which [] G heard are =
    ap (λ (hs : List Hearing). faults_of form rows which 0 (faults_among hs)) are ∙ same_none form rows which 0 (first_stamp G)
    ∙ sym (ap (λ (hs : List Hearing). faults_of form rows which (first_stamp G) (faults_among hs)) are)
same_first form rows which (f ∷ F) G heard are = refl

-- ---- what is told: of the first messages first

same_get : (ms ks : List Hearing) (n : ℕ) → n < length ms → slice_get (ms ++ ks) n ≡ slice_get ms n
same_get [] ks n l = absurd (omega arith)
same_get (m ∷ ms) ks zero l = refl
same_get (m ∷ ms) ks (suc n) l = same_get ms ks n (omega arith)

told_first : (which : Chosen) (ms ks : List Hearing) (n : ℕ) → n ≤ length ms → told_below which (ms ++ ks) n ≡ told_below which ms n
unfolding told_below
told_first which ms ks zero l = refl
told_first which ms ks (suc n) l =
    ap (λ x. x ++ told_here which (take n (ms ++ ks)) (slice_get (ms ++ ks) n)) (told_first which ms ks n (omega arith))
    ∙ ap (λ x. told_below which ms n ++ told_here which x (slice_get (ms ++ ks) n)) (take-append-le n ms ks (omega arith))
    ∙ ap (λ x. told_below which ms n ++ told_here which (take n ms) x) (same_get ms ks n (omega arith))

told_rest : (which : Chosen) (ms ks : List Hearing) (n : ℕ) → (rest : List Fault) × (told_below which (ms ++ ks) (n + length ms) ≡ told which ms ++ rest)
unfolding told_below
told_rest which ms ks zero =
    let first : 0 + length ms ≡ length ms = omega arith in
    ([], ap (told_below which (ms ++ ks)) first ∙ told_first which ms ks (length ms) (omega arith) ∙ sym (append-nil (told which ms)))
told_rest which ms ks (suc n) =
    let next : suc n + length ms ≡ suc (n + length ms) = omega arith in
    let r = told_rest which ms ks n in
    let here = told_here which (take (n + length ms) (ms ++ ks)) (slice_get (ms ++ ks) (n + length ms)) in
    (r.0 ++ here, ap (told_below which (ms ++ ks)) next ∙ ap (λ x. x ++ here) r.1 ∙ append_assoc (told which ms) r.0 here)

told_begins : (which : Chosen) (ms ks : List Hearing) → (rest : List Fault) × (told which (ms ++ ks) ≡ told which ms ++ rest)
told_begins which ms ks =
    let len : length (ms ++ ks) ≡ length ks + length ms = length-append ms ks ∙ omega arith in
    let r = told_rest which ms ks (length ks) in
    (r.0, ap (told_below which (ms ++ ks)) len ∙ r.1)

get_last : (ms : List Hearing) (m : Hearing) → slice_get (ms ++ m ∷ []) (length ms) ≡ Some m
get_last [] m = refl
get_last (x ∷ ms) m = get_last ms m

take_front : (ms : List Hearing) (m : Hearing) → take (length ms) (ms ++ m ∷ []) ≡ ms
take_front [] m = refl
take_front (x ∷ ms) m = ap (λ xs. x ∷ xs) (take_front ms m)

told_one : (which : Chosen) (ms : List Hearing) (m : Hearing) → told which (ms ++ m ∷ []) ≡ told which ms ++ told_here which ms (Some m)
unfolding told_below
told_one which ms m =
    let len : length (ms ++ m ∷ []) ≡ suc (length ms) = length-append ms (m ∷ []) ∙ omega arith in
    ap (told_below which (ms ++ m ∷ [])) len
    ∙ ap (λ x. x ++ told_here which (take (length ms) (ms ++ m ∷ [])) (slice_get (ms ++ m ∷ []) (length ms))) (told_first which ms (m ∷ []) (length ms) (omega arith))
    ∙ ap (λ x. told which ms ++ told_here which x (slice_get (ms ++ m ∷ []) (length ms))) (take_front ms m)
    ∙ ap (λ x. told which ms ++ told_here which ms x) (get_last ms m)

-- ---- what is heard next

pub among_yes : (h : Hearing) → is_of_faults h ≡ true → faults_among (h ∷ []) ≡ h ∷ []
among_yes h is = cond-true _ _ _ is

pub among_no : (h : Hearing) → is_of_faults h ≡ false → faults_among (h ∷ []) ≡ []
among_no h isnt = cond-false _ _ _ isnt

pub next_yes : (which : Chosen) (ms : List Hearing) (h : Hearing) → is_of_faults h ≡ true → told_next which ms (Some h) ≡ told_here which ms (Some h)
next_yes which ms h is = cond-true _ _ _ is

pub next_no : (which : Chosen) (ms : List Hearing) (h : Hearing) → is_of_faults h ≡ false → told_next which ms (Some h) ≡ []
next_no which ms h isnt = cond-false _ _ _ isnt

told_more : (which : Chosen) (ms : List Hearing) (o : Option Hearing) → told which (ms ++ faults_among (or_none o)) ≡ told which ms ++ told_next which ms o
told_more which ms None = ap (told which) (append-nil ms) ∙ sym (append-nil (told which ms))
told_more which ms (Some h) = elim (cases_Bool (is_of_faults h)) [
  | inl is ↦ ap (λ x. told which (ms ++ x)) (among_yes h is) ∙ told_one which ms h ∙ ap (λ x. told which ms ++ x) (sym (next_yes which ms h is))
  | inr isnt ↦ ap (λ x. told which (ms ++ x)) (among_no h isnt) ∙ ap (told which) (append-nil ms) ∙ sym (append-nil (told which ms))
      ∙ ap (λ x. told which ms ++ x) (sym (next_no which ms h isnt))
]

-- what isn't in time is told to nobody
pub untimely : (which : Chosen) (first : ℕ) (ms : List Hearing) (h : Hearing) → is_in_time which.asked first h.stamp ≡ false
    → faults_taken which.asked first (told_next which ms (Some h)) ≡ []
untimely which first ms h isnt =
    let untaken : takes_message which.asked first h ≡ false = rw isnt refl in
    taken_next which first ms h ∙ rw untaken refl

taken_append : (which : FilterRecord) (first : ℕ) (xs ys : List Fault) → faults_taken which first (xs ++ ys) ≡ faults_taken which first xs ++ faults_taken which first ys
taken_append which first xs ys = filter-append (asks_fault which first) xs ys

module _ (form : Format) (rows : Manner) (which : Chosen) (first : ℕ) (ms : List Hearing) (o : Option Hearing) where
  -- those of them that are told
  abbrev pub its : List Hearing
  its = in_time which.asked first ms

  abbrev taken_first : List Fault
  taken_first = faults_taken which.asked first (told which its)

  abbrev taken_next_of : Option Hearing → List Fault
  taken_next_of x = faults_taken which.asked first (told_next which its x)

  taken_with : (x : Option Hearing) → faults_taken which.asked first (told which (its ++ in_time which.asked first (faults_among (or_none x)))) ≡ taken_first ++ taken_next_of x
  taken_with None = ap (λ hs. faults_taken which.asked first (told which hs)) (append-nil its) ∙ sym (append-nil taken_first)
  taken_with (Some h) = elim (cases_Bool (is_in_time which.asked first h.stamp)) [
    | inl is ↦ ap (λ hs. faults_taken which.asked first (told which (its ++ hs))) (all_in is (is_of_faults h)) ∙ ap (faults_taken which.asked first) (told_more which its (Some h))
        ∙ taken_append which.asked first (told which its) (told_next which its (Some h))
    | inr isnt ↦ ap (λ hs. faults_taken which.asked first (told which (its ++ hs))) (none_in isnt (is_of_faults h)) ∙ ap (λ hs. faults_taken which.asked first (told which hs)) (append-nil its)
        ∙ sym (append-nil taken_first) ∙ ap (λ fs. taken_first ++ fs) (sym (untimely which first its h isnt))
  ]
    where
      all_in : is_in_time which.asked first h.stamp ≡ true → (b : Bool) → in_time which.asked first (if b then h ∷ [] else []) ≡ (if b then h ∷ [] else [])
      all_in is true = in_time_yes which.asked first h is
      all_in is false = refl

      none_in : is_in_time which.asked first h.stamp ≡ false → (b : Bool) → in_time which.asked first (if b then h ∷ [] else []) ≡ []
      none_in isnt true = in_time_no which.asked first h isnt
      none_in isnt false = refl

  taken_more : faults_taken which.asked first (told which (in_time which.asked first (ms ++ faults_among (or_none o)))) ≡ taken_first ++ taken_next_of o
  taken_more = ap (λ hs. faults_taken which.asked first (told which hs)) (in_time-append which.asked first ms (faults_among (or_none o))) ∙ taken_with o

  text_more : (faults_of form rows which first (ms ++ faults_among (or_none o))).text ≡ (faults_of form rows which first ms).text ++ (added form rows which first its o).text
  text_more = ap (faults_text form rows) taken_more ∙ faults_text-append form rows taken_first (taken_next_of o)

  made_more : made_of (faults_of form rows which first (ms ++ faults_among (or_none o))) ≡ made_sum (made_of (faults_of form rows which first ms)) (made_of (added form rows which first its o))
  made_more = same_made _ _
      (capped-sum _ _ _ (length-append ms (faults_among (or_none o))))
      (capped-sum _ _ _ (ap (lines_in rows) taken_more ∙ count_by-append (says_asked rows) taken_first (taken_next_of o)))

-- ---- nothing is told

pub tells_nothing : (form : Format) (rows : Manner) (which : Chosen) (first : ℕ) (last : LastFaults) (ms : List Hearing) (o : Option Hearing) (made : Made) (held : Option (List ℕ))
    → faults_among (or_none o) ≡ [] → told_next which ms o ≡ [] → Remembers which.telling last ms → made.messages ≡ 0 → made.lines ≡ 0
    → Tells form rows which first last ms o made held held
tells_nothing form rows which first last ms o made held none untold remembers m l = record {
  remembers = subst (Remembers which.telling last) (sym (ap (λ (x : List Hearing). ms ++ in_time which.asked first x) none ∙ append-nil ms)) remembers;
  made_is = same_made _ _ (m ∙ sym (ap (λ (x : List Hearing). capped (length x)) none)) (l ∙ sym (ap (λ (x : List Fault). capped (lines_in rows (faults_taken which.asked first x))) untold));
  written = subst (Appends held held) (sym (ap (λ (x : List Fault). faults_text form rows (faults_taken which.asked first x)) untold ∙ faults_text-none form rows)) (Appends-nil held);
}

-- ---- the groups of faults aren't the network's

pub faults_leave : LeavesNetwork is_fault_group
faults_leave pgn network = grind arith

-- ---- what was announced, and what came whole

pub same_announced : (a b : Announced) → a.announced ≡ b.announced → a.whole ≡ b.whole → a ≡ b
same_announced a b m w = λ i. record { announced = m i; whole = w i }

count_more : {X : Type 0} (p : X → Bool) (xs : List X) (x : X) → capped (capped (count_by p xs) + one_if (p x)) ≡ capped (count_by p (xs ++ x ∷ []))
count_more p xs x = capped_sum _ (count_by p xs) (one_if (p x)) refl
    ∙ ap capped (ap (λ n. count_by p xs + n) (count_here p x) ∙ sym (count_by-append p xs (x ∷ [])))

pub announced_more : (F : List FrameRecord) (heard : List Hearing) (f : FrameRecord) (o : Option Hearing)
    → with_either (with_frame (announced_in F heard) f) o ≡ announced_in (F ++ f ∷ []) (heard ++ or_none o)
announced_more F heard f None = same_announced _ _ (count_more announces_codes F f) (ap (λ hs. capped (count_by is_whole hs)) (sym (append-nil heard)))
announced_more F heard f (Some h) = same_announced _ _ (count_more announces_codes F f) (count_more is_whole heard h)

-- ---- a frame more

sound : (F : List FrameRecord) (heard : List Hearing) (more : List Hearing) → faults_among (heard ++ more) ≡ faults_among heard ++ faults_among more
sound F heard more = filter-append is_of_faults heard more

pub news_meets : (form : Format) (s : Subject) (a a' : FaultNews) → a'.writing ≡ a.writing → a'.choice ≡ a.choice → (f : FrameRecord) (made : Made) (old new : Option (List ℕ))
    → ((which : FilterRecord) (F : List FrameRecord) → Chooses which a.chooser F → Chooses which a'.chooser (F ++ f ∷ []))
    → ((F : List FrameRecord) (ms : List Hearing) → Hears a.listener F → Chooses (chosen_of a.choice).asked a'.chooser (F ++ f ∷ []) → Remembers a.choice.telling a.last ms
    → MeetsFrame a.writing.form (manner_of a.writing) (chosen_of a.choice) a'.listener a'.last a.announced a'.announced F f ms made old new)
    → a'.made ≡ made_sum a.made made → Meets (HasTold form s) a a' (f ∷ []) old new
news_meets form s a a' writing choice f made old new notes meets sum = λ F before has.
    let ms = faults_among has.heard in
    let first = first_stamp (F ++ f ∷ []) in
    let its = in_time s.which.asked first ms in
    let remembers = subst (λ (t : Chosen). Remembers t.telling a.last its) (sym has.chosen_is) (subst (Remembers s.which.telling a.last) (same_times s.which.asked is_of_faults F (f ∷ []) has.heard has.are_heard) has.remembers) in
    let noted = notes s.which.asked F has.chooses in
    let before_is : before ≡ faults_of form s.manner s.which first ms = has.output_is ∙ same_first form s.manner s.which F (f ∷ []) has.heard has.are_heard in
    let noted_here = subst (λ (t : Chosen). Chooses t.asked a'.chooser (F ++ f ∷ [])) (sym has.chosen_is) noted in
    let met = subst (λ (t : Chosen). MeetsFrame form s.manner t a'.listener a'.last a.announced a'.announced F f its made old new) has.chosen_is
    (subst (λ (rows : Manner). MeetsFrame form rows (chosen_of a.choice) a'.listener a'.last a.announced a'.announced F f its made old new) has.by
    (subst (λ (form : Format). MeetsFrame form (manner_of a.writing) (chosen_of a.choice) a'.listener a'.last a.announced a'.announced F f its made old new) has.form_is (meets F its has.hears noted_here remembers))) in
    let heard = has.heard ++ or_none met.heard in
    let are = sound F has.heard (or_none met.heard) in
    record {
      after = faults_of form s.manner s.which first (faults_among heard);
      met = record {
        form_is = ap (λ (x : Writing). x.form) writing ∙ has.form_is;
        by = ap manner_of writing ∙ has.by;
        chosen_is = ap chosen_of choice ∙ has.chosen_is;
        chooses = noted;
        heard = heard;
        are_heard = heard_more is_fault_group F f has.heard met.heard has.are_heard met.heard_at;
        output_is = refl;
        hears = met.hears;
        remembers = subst (Remembers s.which.telling a'.last) (sym (ap (in_time s.which.asked first) are ∙ in_time-append s.which.asked first ms (faults_among (or_none met.heard)))) met.tells.remembers;
        made_is = sum ∙ ap (λ (x : Made). made_sum x made) (has.made_is ∙ ap made_of before_is) ∙ ap (made_sum (made_of (faults_of form s.manner s.which first ms))) met.tells.made_is
            ∙ sym (made_more form s.manner s.which first ms met.heard) ∙ sym (ap (λ (x : List Hearing). made_of (faults_of form s.manner s.which first x)) are);
        announced_is = met.announced_is ∙ ap (λ (x : Announced). with_either (with_frame x f) met.heard) has.announced_is ∙ announced_more F has.heard f met.heard;
      };
      more = (added form s.manner s.which first its met.heard).text;
      text_is = ap (λ (x : List Hearing). (faults_of form s.manner s.which first x).text) are ∙ text_more form s.manner s.which first ms met.heard
          ∙ ap (λ t. t ++ (added form s.manner s.which first its met.heard).text) (sym (ap (λ (o : Output). o.text) before_is));
      written = met.tells.written;
    }

-- ---- what is told of the first frames comes first

texts : (form : Format) (rows : Manner) (which : Chosen) (bus : List ℕ) (F G : List FrameRecord) (first : List Hearing) (before all : Output) → AreHeardWith is_fault_group F first
    → before ≡ faults_of form rows which (first_stamp F) (faults_among first) → MakesFaultsIn form rows which bus (F ++ G) all → (rest : List ℕ) × (all.text ≡ before.text ++ rest)
texts form rows which bus F G first before all are is (heard, are_all, all_is) =
    let split = heard_first is_fault_group faults_leave F G heard first are_all are in
    let among = ap faults_among split.1 ∙ sound F first split.0 in
    let stamp = first_stamp (F ++ G) in
    let its = in_time which.asked stamp (faults_among first) in
    let t = told_begins which its (in_time which.asked stamp (faults_among split.0)) in
    let rest = faults_taken which.asked stamp t.0 in (
      faults_text form rows rest,
      ap (λ (o : Output). o.text) all_is ∙ ap (λ (x : List Hearing). faults_text form rows (faults_taken which.asked stamp (told which x)))
          (ap (in_time which.asked stamp) among ∙ in_time-append which.asked stamp (faults_among first) (faults_among split.0))
          ∙ ap (λ (x : List Fault). faults_text form rows (faults_taken which.asked stamp x)) t.1
          ∙ ap (faults_text form rows) (taken_append which.asked stamp (told which its) t.0)
          ∙ faults_text-append form rows (faults_taken which.asked stamp (told which its)) rest
          ∙ ap (λ x. x ++ faults_text form rows rest) (sym (ap (λ (o : Output). o.text) (is ∙ same_first form rows which F G first are))),
    )

pub news_begins : (form : Format) (s : Subject) → Begins (λ bus. HasTold form s) (MakesFaultsIn form s.manner s.which)
news_begins form s = λ bus a F G before all has made. texts form s.manner s.which bus F G has.heard before all has.are_heard has.output_is made

pub news_one_in : (form : Format) (s : Subject) → MakesOne (MakesFaultsIn form s.manner s.which)
news_one_in form s = λ bus F x y (hs, are_x, is_x) (ks, are_y, is_y).
    ap (λ (o : Output). o.text) is_x ∙ ap (λ (ms : List Hearing). (faults_of form s.manner s.which (first_stamp F) (faults_among ms)).text) (heard_below_unique is_fault_group faults_leave F (length F) hs ks are_x are_y)
    ∙ sym (ap (λ (o : Output). o.text) is_y)

pub news_one : (clock : Clock) (s : Subject) → MakesOne (MakesFaults (Line clock) s.manner s.which)
news_one clock s = news_one_in (Line clock) s

-- a fault of the writer at a frame
pub news_stops : (form : Format) (s : Subject) (a : FaultNews) (chooser : Chooser) (f : FrameRecord) (old new : Option (List ℕ))
    → ((which : FilterRecord) (F : List FrameRecord) → Chooses which a.chooser F → Chooses which chooser (F ++ f ∷ []))
    → ((F : List FrameRecord) (ms : List Hearing) → Hears a.listener F → Chooses (chosen_of a.choice).asked chooser (F ++ f ∷ []) → Remembers a.choice.telling a.last ms → StopsFrame a.writing.form (manner_of a.writing) (chosen_of a.choice) F f ms old new)
    → (bus : List ℕ) → Stops (HasTold form s) (MakesFaultsIn form s.manner s.which bus) a (f ∷ []) old new
news_stops form s a chooser f old new notes stops bus = λ F G before all has made.
    let ms = faults_among has.heard in
    let stamp = first_stamp (F ++ f ∷ []) in
    let its = in_time s.which.asked stamp ms in
    let remembers = subst (λ (t : Chosen). Remembers t.telling a.last its) (sym has.chosen_is) (subst (Remembers s.which.telling a.last) (same_times s.which.asked is_of_faults F (f ∷ []) has.heard has.are_heard) has.remembers) in
    let before_is : before ≡ faults_of form s.manner s.which stamp ms = has.output_is ∙ same_first form s.manner s.which F (f ∷ []) has.heard has.are_heard in
    let noted_here = subst (λ (t : Chosen). Chooses t.asked chooser (F ++ f ∷ [])) (sym has.chosen_is) (notes s.which.asked F has.chooses) in
    let stop = subst (λ (t : Chosen). StopsFrame form s.manner t F f its old new) has.chosen_is
    (subst (λ (rows : Manner). StopsFrame form rows (chosen_of a.choice) F f its old new) has.by
    (subst (λ (form : Format). StopsFrame form (manner_of a.writing) (chosen_of a.choice) F f its old new) has.form_is (stops F its has.hears noted_here remembers))) in
    let here = (added form s.manner s.which stamp its stop.heard).text in
    let first = has.heard ++ or_none stop.heard in
    let t = texts form s.manner s.which bus (F ++ f ∷ []) G first (faults_of form s.manner s.which stamp (faults_among first)) all (heard_more is_fault_group F f has.heard stop.heard has.are_heard stop.heard_at) refl made in
    let is : all.text ≡ before.text ++ (here ++ t.0) =
    t.1 ∙ ap (λ x. x ++ t.0) (ap (λ (x : List Hearing). (faults_of form s.manner s.which stamp x).text) (sound F has.heard (or_none stop.heard)) ∙ text_more form s.manner s.which stamp ms stop.heard)
    ∙ append_assoc (faults_of form s.manner s.which stamp ms).text here t.0 ∙ ap (λ x. x ++ (here ++ t.0)) (sym (ap (λ (o : Output). o.text) before_is)) in
    record {
      rest = here ++ t.0;
      all_is = is;
      front = (stop.front.0, stop.front.1 ++ t.0, ap (λ x. x ++ t.0) stop.front.2 ∙ append_assoc stop.front.0 stop.front.1 t.0, stop.front.3);
    }

-- memory is refused at a frame
pub news_asks : (form : Format) (s : Subject) (a : FaultNews) (chooser : Chooser) (f : FrameRecord)
    → ((which : FilterRecord) (F : List FrameRecord) → Chooses which a.chooser F → Chooses which chooser (F ++ f ∷ []))
    → ((F : List FrameRecord) (heard : List Hearing) → Hears a.listener F → AreHeardWith is_fault_group F heard → Chooses (chosen_of a.choice).asked chooser (F ++ f ∷ [])
    → Remembers a.choice.telling a.last (in_time (chosen_of a.choice).asked (first_stamp (F ++ f ∷ [])) (faults_among heard)) → AsksForFaults a.choice.telling (chosen_of a.choice).asked F f)
    → (F : List FrameRecord) (output : Output) → HasTold form s a F output → AsksForFaults s.which.telling s.which.asked F f
news_asks form s a chooser f notes asked F output has =
    let remembers = subst (Remembers s.which.telling a.last) (same_times s.which.asked is_of_faults F (f ∷ []) has.heard has.are_heard) has.remembers in
    subst (λ (t : Chosen). AsksForFaults t.telling t.asked F f) has.chosen_is (asked F has.heard has.hears has.are_heard
    (subst (λ (t : Chosen). Chooses t.asked chooser (F ++ f ∷ [])) (sym has.chosen_is) (notes s.which.asked F has.chooses))
    (subst (λ (t : Chosen). Remembers t.telling a.last (in_time t.asked (first_stamp (F ++ f ∷ [])) (faults_among has.heard))) (sym has.chosen_is) remembers))
