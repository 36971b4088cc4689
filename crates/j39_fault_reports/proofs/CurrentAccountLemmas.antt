-- The faults that are there now as an account: what is heard at one frame more, and its end.
use Rattle.j39_fault_reports.proofs.Common.{◌≡◌, ◌∙◌, ◌+◌, ◌++◌, ◌∷◌, [], ℕ, List, Option, None, ap, append-nil, arith, length, length-append, refl, subst, sym, Appends, Appends-nil, filter-append, AppendsFront, Conversion, FrameRecord, Begins, Closes, MakesOne, Meets, StopsAtEnd, Chooses, capped, FilterRecord, first_stamp, in_time, AreHeardWith, Chooser, HeardAtWith, Hearing, or_none, Hears, Output, Format, Listener, heard_more, heard_below_unique}
use Rattle.j39_fault_reports.specs.CurrentPlaces.{LastActives}
use Rattle.j39_fault_reports.specs.CurrentSoFar.{AreKept, HasKept, NowSubject, TakesFrame, taken_below}
use Rattle.j39_fault_reports.specs.FaultsNow.{now_taken, told_now}
use Rattle.std.specs.Option.{option_map}
use Rattle.j39_frame.specs.Stamp.{stamp_micros}
use Rattle.j39_fault_reports.specs.Silence.{last_stamp}
use Rattle.j39_fault_reports.specs.Spoken.{active_among, is_active_message}
use Rattle.j39_fault_reports.specs.FaultsNowRun.{AsksForFaultsNow, MakesFaultsNowIn, faults_now_of, now_lines, now_text}
use Rattle.j39_fault_reports.specs.FaultsSoFar.{manner_of, with_either, with_frame}
use Rattle.j39_fault_reports.specs.News.{is_fault_group}
use Rattle.j39_fault_reports.specs.declared.fault_news.announced.Announced.{Announced}
use Rattle.j39_fault_reports.specs.declared.current_faults.account.FaultsNow.{FaultsNow}
use Rattle.j39_fault_reports.specs.declared.fault_news.form.Writing.{Writing}
use Rattle.j39_fault_reports.proofs.CurrentLemmas.{told_all}
use Rattle.j39_fault_reports.proofs.FaultAccountLemmas.{announced_more, faults_leave, in_time-append, same_times}

-- ---- laws

pub now_begins : (form : Format) (s : NowSubject) → Begins (λ bus. HasKept form s) (MakesFaultsNowIn form s.manner s.conversions s.which)
now_begins form s = λ bus a F G before all has made.
    (all.text, ap (λ t. t ++ all.text) (sym (ap (λ (o : Output). o.text) has.nothing_yet)))

pub now_one : (form : Format) (s : NowSubject) → MakesOne (MakesFaultsNowIn form s.manner s.conversions s.which)
now_one form s = λ bus F x y (hs, are_x, is_x) (ks, are_y, is_y).
    ap (λ (o : Output). o.text) is_x
    ∙ ap (λ (ms : List Hearing). (faults_now_of form s.manner s.conversions s.which (first_stamp F) (last_stamp s.which F) (active_among ms)).text) (heard_below_unique is_fault_group faults_leave F (length F) hs ks are_x are_y)
    ∙ sym (ap (λ (o : Output). o.text) is_y)

-- ---- one frame

among_more : (heard more : List Hearing) → active_among (heard ++ more) ≡ active_among heard ++ active_among more
among_more heard more = filter-append is_active_message heard more

pub takes_silent : (which : FilterRecord) (cs : List Conversion) (F : List FrameRecord) (f : FrameRecord) (l' : Listener) (places : LastActives) (a a' : Announced) (ms : List Hearing)
    → a' ≡ with_frame a f → HeardAtWith is_fault_group (F ++ f ∷ []) (length F) None → Hears l' (F ++ f ∷ []) → AreKept cs places ms → TakesFrame which cs F f l' places a a' ms 0
takes_silent which cs F f l' places a a' ms announced at hears kept = record {
  heard = None;
  heard_at = at;
  hears = hears;
  announced_is = announced;
  are_kept = subst (AreKept cs places) (sym (append-nil ms)) kept;
  messages_are = refl;
}

pub now_meets : (form : Format) (s : NowSubject) (a a' : FaultsNow) → a'.writing ≡ a.writing → a'.conversions ≡ a.conversions → (f : FrameRecord) (messages : ℕ) (old : Option (List ℕ))
    → ((which : FilterRecord) (F : List FrameRecord) → Chooses which a.chooser F → Chooses which a'.chooser (F ++ f ∷ []))
    → ((which : FilterRecord) (F : List FrameRecord) (ms : List Hearing) → Hears a.listener F → Chooses which a'.chooser (F ++ f ∷ []) → AreKept a.conversions.now a.places ms → TakesFrame which a.conversions.now F f a'.listener a'.places a.announced a'.announced ms messages)
    → ((which : FilterRecord) (F : List FrameRecord) → Chooses which a'.chooser (F ++ f ∷ []) → option_map stamp_micros a.last ≡ last_stamp which F → option_map stamp_micros a'.last ≡ last_stamp which (F ++ f ∷ []))
    → a'.messages ≡ capped (a.messages + messages) → Meets (HasKept form s) a a' (f ∷ []) old old
now_meets form s a a' writing conversions f messages old notes takes lasts sum = λ F before has.
    let ms = active_among has.heard in
    let first = first_stamp (F ++ f ∷ []) in
    let its = in_time s.which first ms in
    let kept = subst (AreKept s.conversions a.places) (same_times s.which is_active_message F (f ∷ []) has.heard has.are_heard) has.are_kept in
    let t = subst (λ (cs : List Conversion). TakesFrame s.which cs F f a'.listener a'.places a.announced a'.announced its messages) has.conversions_are
    (takes s.which F its has.hears (notes s.which F has.chooses) (subst (λ (cs : List Conversion). AreKept cs a.places its) (sym has.conversions_are) kept)) in
    let more = or_none t.heard in
    let all : active_among (has.heard ++ more) ≡ ms ++ active_among more = among_more has.heard more in
    let count : a'.messages ≡ capped (length (active_among (has.heard ++ more))) =
    sum ∙ (let len = ap length all ∙ length-append ms (active_among more) in let m = t.messages_are in let b = has.messages_are in omega (arith, len, m, b)) in
    record {
      after = before;
      met = record {
        form_is = ap (λ (w : Writing). w.form) writing ∙ has.form_is;
        by = ap manner_of writing ∙ has.by;
        conversions_are = (λ i. (conversions i).now) ∙ has.conversions_are;
        chooses = notes s.which F has.chooses;
        heard = has.heard ++ more;
        are_heard = heard_more is_fault_group F f has.heard t.heard has.are_heard t.heard_at;
        hears = t.hears;
        are_kept = subst (AreKept s.conversions a'.places) (sym (ap (in_time s.which first) all ∙ in_time-append s.which first ms (active_among more))) t.are_kept;
        messages_are = count;
        announced_is = t.announced_is ∙ ap (λ (x : Announced). with_either (with_frame x f) t.heard) has.announced_is ∙ announced_more F has.heard f t.heard;
        last_is = lasts s.which F (notes s.which F has.chooses) has.last_is;
        nothing_yet = has.nothing_yet;
      };
      more = [];
      text_is = sym (append-nil before.text);
      written = Appends-nil old;
    }

pub now_asks : (form : Format) (s : NowSubject) (a : FaultsNow) (chooser : Chooser) (F : List FrameRecord) (f : FrameRecord) (output : Output)
    → ((which : FilterRecord) (F : List FrameRecord) → Chooses which a.chooser F → Chooses which chooser (F ++ f ∷ []))
    → ((which : FilterRecord) (F : List FrameRecord) (heard : List Hearing) → Hears a.listener F → Chooses which chooser (F ++ f ∷ []) → AreHeardWith is_fault_group F heard
    → AreKept a.conversions.now a.places (in_time which (first_stamp (F ++ f ∷ [])) (active_among heard)) → AsksForFaultsNow which F f)
    → HasKept form s a F output → AsksForFaultsNow s.which F f
now_asks form s a chooser F f output notes asked has =
    let kept = subst (AreKept s.conversions a.places) (same_times s.which is_active_message F (f ∷ []) has.heard has.are_heard) has.are_kept in
    asked s.which F has.heard has.hears (notes s.which F has.chooses) has.are_heard
    (subst (λ (cs : List Conversion). AreKept cs a.places (in_time s.which (first_stamp (F ++ f ∷ [])) (active_among has.heard))) (sym has.conversions_are) kept)

-- ---- the end

-- what is written of what is asked for
abbrev pub written_by : FaultsNow → FilterRecord → List FrameRecord → List ℕ
written_by a which F = now_text a.writing.form (manner_of a.writing) (option_map stamp_micros a.last) (taken_below which (first_stamp F) a.places 256)

all_taken : (form : Format) (s : NowSubject) (a : FaultsNow) (F : List FrameRecord) (before : Output) → (has : HasKept form s a F before)
    → taken_below s.which (first_stamp F) a.places 256 ≡ now_taken s.which (first_stamp F) (told_now s.conversions (in_time s.which (first_stamp F) (active_among has.heard)))
all_taken form s a F before has =
    ap (now_taken s.which (first_stamp F)) (told_all s.conversions (in_time s.which (first_stamp F) (active_among has.heard)) a.places has.are_kept 256 (omega arith))

all_text : (form : Format) (s : NowSubject) (a : FaultsNow) (F : List FrameRecord) (before : Output) → (has : HasKept form s a F before)
    → written_by a s.which F ≡ (faults_now_of form s.manner s.conversions s.which (first_stamp F) (last_stamp s.which F) (active_among has.heard)).text
all_text form s a F before has = λ i. now_text (has.form_is i) (has.by i) (has.last_is i) (all_taken form s a F before has i)

pub now_closes : (form : Format) (s : NowSubject) (a : FaultsNow) (lines : ℕ) (old new : Option (List ℕ))
    → ((which : FilterRecord) (F : List FrameRecord) → Chooses which a.chooser F → lines ≡ capped (now_lines (manner_of a.writing) (taken_below which (first_stamp F) a.places 256)))
    → ((which : FilterRecord) (F : List FrameRecord) → Chooses which a.chooser F → Appends old new (written_by a which F))
    → Closes (λ bus. HasKept form s) (MakesFaultsNowIn form s.manner s.conversions s.which) a (record { messages = a.messages; lines = lines }) old new
now_closes form s a lines old new count written = λ bus F before has.
    let out = faults_now_of form s.manner s.conversions s.which (first_stamp F) (last_stamp s.which F) (active_among has.heard) in
    record {
      after = out;
      is_made = (has.heard, has.are_heard, refl);
      messages_are = has.messages_are;
      lines_are = count s.which F has.chooses ∙ (λ i. capped (now_lines (has.by i) (all_taken form s a F before has i)));
      more = out.text;
      text_is = ap (λ t. t ++ out.text) (sym (ap (λ (o : Output). o.text) has.nothing_yet));
      written = subst (Appends old new) (all_text form s a F before has) (written s.which F has.chooses);
    }

pub now_stops : (form : Format) (s : NowSubject) (a : FaultsNow) (old new : Option (List ℕ))
    → ((which : FilterRecord) (F : List FrameRecord) → Chooses which a.chooser F → AppendsFront old new (written_by a which F))
    → StopsAtEnd (λ bus. HasKept form s) (MakesFaultsNowIn form s.manner s.conversions s.which) a old new
now_stops form s a old new front = λ bus F before all has made.
    let out = faults_now_of form s.manner s.conversions s.which (first_stamp F) (last_stamp s.which F) (active_among has.heard) in
    let is : all.text ≡ out.text = now_one form s bus F all out made (has.heard, has.are_heard, refl) in
    record {
      rest = all.text;
      all_is = ap (λ t. t ++ all.text) (sym (ap (λ (o : Output). o.text) has.nothing_yet));
      front = subst (AppendsFront old new) (all_text form s a F before has ∙ sym is) (front s.which F has.chooses);
    }
