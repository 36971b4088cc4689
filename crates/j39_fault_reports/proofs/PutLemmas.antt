-- What is told of one message.
use Rattle.j39_fault_reports.proofs.Common.{◌≡◌, ◌≢◌, ◌∙◌, ◌<◌, ◌≤◌, ◌^◌, ◌&&◌, ◌||◌, ℕ, Bool, true, false, List, [], ◌∷◌, ◌++◌, Option, Some, or-true, None, ap, append-nil, arith, cases_Bool, inl, inr, is_some, length, nat_le, refl, subst, sym, Result, Ok, Err, IfOk, le-leb, Appends, Appends-nil, AppendsFront, Puts, Device, Turn, puts_as, puts_nothing, cleared_in, kind_of, lamps_of, Kind, Active, Previous, EmissionPending, EmissionActive, EmissionPrevious, Pending, Permanent, Lamps, LeavesWriter, capped, LineFault, in_time, is_in_time, takes_message, Hearing, Made, capped-fits, same_made, version_for, Version, Format}
use Rattle.j39_listen.specs.declared.account.LineFault.TheVariants.{Memory, Write}
use Rattle.j39_fault_reports.specs.Faults.{Fault, Manner, clearing_of, faults_by, faults_in, faults_or_clearing, faults_taken, lines_in, names_asked}
use Rattle.j39_fault_reports.specs.News.{Chosen, is_clearing, is_news, is_of_codes, is_of_faults, last_from, says_other}
use Rattle.j39_fault_reports.specs.FaultChanges.{changes_by, changes_in, changes_of, last_bytes}
use Rattle.j39_fault_reports.specs.Told.{told_of}
use Rattle.j39_fault_reports.specs.FaultRows.{faults_text}
use Rattle.j39_fault_reports.specs.Remembered.{Remembers, before_of, noted, said_at, said_in, tells_changes}
use Rattle.j39_fault_reports.specs.Places.{HaveTaken, kept_before}
use Rattle.j39_fault_reports.specs.Spoken.{active_among, is_active, is_active_message, is_of_active, sent_before, spoken_in}
use Rattle.j39_fault_reports.specs.LastMessages.{differs, name_of, said_before}
use Rattle.j39_fault_reports.specs.FaultsSoFar.{Tells, TellsFaults, TellsFront, tells_clearing, told_faults, told_next, told_since}
use Rattle.j39_fault_reports.specs.declared.fault_news.last_faults.LastFaults.{LastFaults}
use Rattle.j39_fault_reports.specs.declared.fault_news.telling.Telling.{Telling}
use Rattle.j39_fault_reports.specs.declared.fault_news.telling.Telling.TheVariants.{News, All, Changes}
use Rattle.j39_fault_reports.proofs.FaultAccountLemmas.{among_no, among_yes, faults_text-none, in_time_no, in_time_yes, next_no, next_yes, tells_nothing, untimely}
use Rattle.j39_fault_reports.proofs.AskedLemmas.{taken_next, told_both}
use Rattle.j39_fault_reports.proofs.TellLemmas.{active_is, before_is, by_request, news_is, remembers_asked, remembers_followed, remembers_more}

-- ---- which messages are of faults

long_enough : (bytes : List ℕ) (lamps : Lamps) → lamps_of bytes ≡ Some lamps → nat_le 2 (length bytes) ≡ true
long_enough [] lamps e = cc
long_enough (x ∷ []) lamps e = cc
long_enough (x ∷ y ∷ rest) lamps e = le-leb 2 (length (x ∷ y ∷ rest)) (omega arith)

too_short : (bytes : List ℕ) → lamps_of bytes ≡ None → nat_le 2 (length bytes) ≡ false
too_short [] e = refl
too_short (x ∷ []) e = refl
too_short (x ∷ y ∷ rest) e = cc

pub of_faults : (h : Hearing) (kind : Kind) (lamps : Lamps) → kind_of h.message.pgn ≡ Some kind → lamps_of h.message.bytes ≡ Some lamps → is_of_faults h ≡ true
of_faults h kind lamps k l =
    ap (λ b. is_clearing h || b) (ap (λ (o : Option Kind). is_some o && nat_le 2 (length h.message.bytes)) k ∙ long_enough h.message.bytes lamps l) ∙ or-true (is_clearing h)

-- where it asks to clear none
or_codes : (h : Hearing) → cleared_in h.message.pgn h.message.bytes ≡ None → is_of_faults h ≡ is_of_codes h
or_codes h asks = ap (λ (o : Option Kind). is_some o || is_of_codes h) asks

pub no_group : (h : Hearing) → cleared_in h.message.pgn h.message.bytes ≡ None → kind_of h.message.pgn ≡ None → is_of_faults h ≡ false
no_group h asks k = or_codes h asks ∙ ap (λ (o : Option Kind). is_some o && nat_le 2 (length h.message.bytes)) k

pub no_lamps : (h : Hearing) (kind : Kind) → cleared_in h.message.pgn h.message.bytes ≡ None → kind_of h.message.pgn ≡ Some kind → lamps_of h.message.bytes ≡ None
    → is_of_faults h ≡ false
no_lamps h kind asks k l = or_codes h asks ∙ ap (λ (o : Option Kind). is_some o && nat_le 2 (length h.message.bytes)) k ∙ too_short h.message.bytes l

-- where it asks to
pub asks_to : (h : Hearing) (kind : Kind) → cleared_in h.message.pgn h.message.bytes ≡ Some kind → is_of_faults h ≡ true
asks_to h kind asks = ap (λ (o : Option Kind). is_some o || is_of_codes h) asks

-- ---- no message of faults

pub tells_other : (form : Format) (rows : Manner) (which : Chosen) (first : ℕ) (last : LastFaults) (ms : List Hearing) (h : Hearing) (made : Made) (held : Option (List ℕ))
    → is_of_faults h ≡ false → Remembers which.telling last ms → made.messages ≡ 0 → made.lines ≡ 0 → Tells form rows which first last ms (Some h) made held held
tells_other form rows which first last ms h made held other remembers m l =
    tells_nothing form rows which first last ms (Some h) made held (among_no h other) (next_no which ms h other) remembers m l

-- ---- what is left of the writer

pub leaves_writer : {T : Type 0} (text : List ℕ) (result : Result T LineFault) (sink : Turn) → Puts text result sink → result ≢ Err Memory → LeavesWriter result sink
leaves_writer text (Ok x) sink puts never = record { write = λ is. absurd (cc is); unmarked = λ other. puts.mark; memory = λ is. absurd (cc is) }
leaves_writer text (Err Write) sink puts never = record { write = λ is. puts.mark; unmarked = λ other. absurd (other refl); memory = λ is. absurd (never is) }
leaves_writer text (Err Memory) sink puts never = absurd (never refl)

-- what was written
pub tells_faults : (form : Format) (rows : Manner) (faults : List Fault) (r : Result Made LineFault) (sink : Turn)
    → IfOk r (λ made. (made.messages ≡ 1) × (made.lines ≡ lines_in rows faults) × (made.lines < 2 ^ 64)) → Puts (faults_text form rows faults) r sink → r ≢ Err Memory
    → TellsFaults form rows faults r sink
tells_faults form rows faults (Ok made) sink counts puts never =
    record { made = counts; written = puts.written; stops = λ is. absurd (cc is); writer = leaves_writer _ (Ok made) sink puts never }
tells_faults form rows faults (Err e) sink counts puts never =
    record { made = tt; written = tt; stops = λ is. puts.front; writer = leaves_writer _ (Err e) sink puts never }

pub refused : (form : Format) (rows : Manner) (faults : List Fault) (d : Device) → TellsFaults form rows faults (Err Memory) (record { old = d; new = d })
refused form rows faults d = record {
  made = tt;
  written = tt;
  stops = λ is. absurd (cc is);
  writer = record { write = λ is. absurd (cc is); unmarked = λ other. refl; memory = λ is. refl };
}

-- nothing is told
pub tells_none : (form : Format) (rows : Manner) (made : Made) (d : Device) → made.messages ≡ 1 → made.lines ≡ 0
    → TellsFaults form rows [] (Ok made) (record { old = d; new = d })
tells_none form rows made d m l =
    tells_faults form rows [] (Ok made) _ (m, l, omega arith) (puts_as _ _ _ _ (sym (faults_text-none form rows)) (puts_nothing made d)) (λ is. cc)

pub lines_of_clearing : (rows : Manner) (m : Hearing) (kind : Kind) → names_asked rows.spns None ≡ true → lines_in rows (clearing_of m kind ∷ []) ≡ 1
lines_of_clearing rows m kind named = rw named refl

-- that codes are to be cleared isn't told where codes are asked for by their numbers
pub tells_unnamed : (form : Format) (rows : Manner) (m : Hearing) (kind : Kind) (made : Made) (d : Device) → names_asked rows.spns None ≡ false
    → made.messages ≡ 1 → made.lines ≡ 0 → TellsFaults form rows (clearing_of m kind ∷ []) (Ok made) (record { old = d; new = d })
unfolding faults_text
tells_unnamed form rows m kind made d unnamed messages l =
    let text : [] ≡ faults_text form rows (clearing_of m kind ∷ []) = rw unnamed refl in
    let none : lines_in rows (clearing_of m kind ∷ []) ≡ 0 = rw unnamed refl in
    tells_faults form rows (clearing_of m kind ∷ []) (Ok made) _ (messages, l ∙ sym none, omega (arith, l)) (puts_as _ _ _ _ text (puts_nothing made d)) (λ is. cc)

-- ---- one of codes

module _ (form : Format) (rows : Manner) (which : Chosen) (first : ℕ) (last : LastFaults) (ms : List Hearing) (h : Hearing) (kind : Kind) (lamps : Lamps)
    (is_asked : Bool) (asked_is : is_asked ≡ takes_message which.asked first h) (version : Option Version) (version_is : version ≡ version_for which.conversions h.name) (asks : cleared_in h.message.pgn h.message.bytes ≡ None) (k : kind_of h.message.pgn ≡ Some kind) (l : lamps_of h.message.bytes ≡ Some lamps) (below : h.message.source < 256) (remembers : Remembers which.telling last ms) where
  faults_are : faults_in which.conversions h ≡ faults_by version h (Some kind) (Some lamps)
  faults_are = ap (faults_or_clearing which.conversions h) asks
      ∙ ap (λ (v : Option Version). faults_by v h (kind_of h.message.pgn) (lamps_of h.message.bytes)) (sym version_is) ∙ ap (λ (o : Option Kind). faults_by version h o (lamps_of h.message.bytes)) k ∙ ap (λ (o : Option Lamps). faults_by version h (Some kind) o) l

  -- it asks to clear none, and so is news by what it says
  clears_none : is_news which.conversions ms h ≡ says_other (version_for which.conversions h.name) (last_from h.message.pgn h.message.source ms) h
  clears_none = ap (λ (o : Option Kind). is_some o || says_other (version_for which.conversions h.name) (last_from h.message.pgn h.message.source ms) h) asks

  news_are : Remembers News last ms → is_news which.conversions ms h ≡ differs version (said_at last kind h.message.source) h.message.bytes h.name
  news_are remembers = clears_none
      ∙ sym (ap (λ (v : Option Version). differs v (said_at last kind h.message.source) h.message.bytes h.name) version_is ∙ news_is News which.conversions last ms h kind remembers k refl below)

  changes_are : Remembers Changes last ms → changes_in which.conversions ms h ≡ told_faults (is_active kind) (changes_by version (said_before (kept_before name_of last.active h.name h.message.source) h.name) h lamps)
  changes_are remembers =
      ap (λ (v : Option Version). changes_of v (last_bytes (sent_before (spoken_in (active_among ms)) h)) h (kind_of h.message.pgn) (lamps_of h.message.bytes)) (sym version_is)
      ∙ ap (λ (bs : List ℕ). changes_of version bs h (kind_of h.message.pgn) (lamps_of h.message.bytes)) (sym (before_is last ms h remembers below))
      ∙ ap (λ (o : Option Kind). changes_of version (said_before (kept_before name_of last.active h.name h.message.source) h.name) h o (lamps_of h.message.bytes)) k
      ∙ ap (λ (o : Option Lamps). changes_of version (said_before (kept_before name_of last.active h.name h.message.source) h.name) h (Some kind) o) l

  -- of other kinds than active codes nothing is told
  by_kind : (kind : Kind) → told_faults (is_active kind) (changes_by version (said_before (kept_before name_of last.active h.name h.message.source) h.name) h lamps)
      ≡ told_since Changes version (before_of Changes last kind h) h kind lamps
  by_kind Active = refl
  by_kind Previous = refl
  by_kind EmissionPending = refl
  by_kind EmissionActive = refl
  by_kind EmissionPrevious = refl
  by_kind Pending = refl
  by_kind Permanent = refl

  told_are : (t : Telling) → Remembers t last ms → told_of t which.conversions ms h ≡ told_since t version (before_of t last kind h) h kind lamps
  told_are News remembers = ap (λ (b : Bool). told_faults b (faults_in which.conversions h)) (news_are remembers)
      ∙ ap (told_faults (differs version (said_at last kind h.message.source) h.message.bytes h.name)) faults_are
  told_are All remembers = faults_are
  told_are Changes remembers = changes_are remembers ∙ by_kind kind

  abbrev taken_since : List Fault
  taken_since = told_faults is_asked (told_since which.telling version (before_of which.telling last kind h) h kind lamps)

  -- what is added is what is told of it, if it is asked for
  next_faults : faults_taken which.asked first (told_next which ms (Some h)) ≡ taken_since
  next_faults = taken_next which first ms h ∙ (λ i. told_faults (sym asked_is i) ((next_yes which ms h (of_faults h kind lamps k l) ∙ told_are which.telling remembers) i))

  active : tells_changes which.telling kind ≡ true → is_active_message h ≡ true
  active on = ap (λ (o : Option Kind). is_of_active o && nat_le 2 (length h.message.bytes)) (k ∙ ap (λ (x : Kind). Some x) (active_is which.telling kind on)) ∙ long_enough h.message.bytes lamps l

  -- it is remembered only if it came between the moments
  pub tells_passed : (made : Made) (held : Option (List ℕ)) → is_in_time which.asked first h.stamp ≡ false → made.messages ≡ 1 → made.lines ≡ 0
      → Tells form rows which first last ms (Some h) made held held
  tells_passed made held passed messages lines =
      let among = among_yes h (of_faults h kind lamps k l) in
      let none = untimely which first ms h passed in
      record {
        remembers = subst (Remembers which.telling last) (sym (ap (λ (x : List Hearing). ms ++ in_time which.asked first x) among ∙ ap (λ (x : List Hearing). ms ++ x) (in_time_no which.asked first h passed) ∙ append-nil ms)) remembers;
        made_is = same_made _ _ (messages ∙ sym (ap (λ (x : List Hearing). capped (length x)) among)) (lines ∙ sym (ap (λ (x : List Fault). capped (lines_in rows x)) none));
        written = subst (Appends held held) (sym (ap (faults_text form rows) none ∙ faults_text-none form rows)) (Appends-nil held);
      }

  pub tells_message : (last' : LastFaults) (made : Made) (old new : Option (List ℕ)) → is_in_time which.asked first h.stamp ≡ true → length h.message.bytes ≤ 1785
      → (tells_changes which.telling kind ≡ false → last' ≡ noted last kind h.message.source (said_in h))
      → (tells_changes which.telling kind ≡ true → last' ≡ record last { active = last'.active })
      → (tells_changes which.telling kind ≡ true → HaveTaken name_of last.active h.name h.message.source (said_in h) last'.active)
      → made.messages ≡ 1 → made.lines ≡ lines_in rows taken_since → made.lines < 2 ^ 64
      → Appends old new (faults_text form rows taken_since) → Tells form rows which first last' ms (Some h) made old new
  tells_message last' made old new now short notes alone moved messages lines fits written =
      let among = among_yes h (of_faults h kind lamps k l) in
      record {
        remembers = subst (λ (x : List Hearing). Remembers which.telling last' (ms ++ x)) (sym (ap (in_time which.asked first) among ∙ in_time_yes which.asked first h now))
            (elim (cases_Bool (tells_changes which.telling kind)) [
              | inl on ↦ remembers_followed which.telling last last' ms h kind k remembers on (alone on) (moved on) (active on) below short
              | inr untold ↦ remembers_more which.telling last last' ms h kind k remembers untold (notes untold) short
            ]);
        made_is = same_made _ _ (messages ∙ sym (ap (λ (x : List Hearing). capped (length x)) among))
            (sym (ap (λ (x : List Fault). capped (lines_in rows x)) next_faults ∙ ap capped (sym lines) ∙ capped-fits made.lines fits));
        written = subst (Appends old new) (sym (ap (faults_text form rows) next_faults)) written;
      }

  pub tells_front : (old new : Option (List ℕ)) → AppendsFront old new (faults_text form rows taken_since)
      → TellsFront form rows which first ms (Some h) old new
  tells_front old new front = subst (AppendsFront old new) (sym (ap (faults_text form rows) next_faults)) front

-- ---- one that asks to clear codes

module _ (form : Format) (rows : Manner) (which : Chosen) (first : ℕ) (last : LastFaults) (ms : List Hearing) (h : Hearing) (kind : Kind)
    (is_asked : Bool) (asked_is : is_asked ≡ takes_message which.asked first h) (asks : cleared_in h.message.pgn h.message.bytes ≡ Some kind) where
  clearing_is : faults_in which.conversions h ≡ clearing_of h kind ∷ []
  clearing_is = ap (faults_or_clearing which.conversions h) asks

  clearing_news : is_news which.conversions ms h ≡ true
  clearing_news = ap (λ (o : Option Kind). is_some o || says_other (version_for which.conversions h.name) (last_from h.message.pgn h.message.source ms) h) asks

  clearing_told : (t : Telling) → told_of t which.conversions ms h ≡ told_faults (tells_clearing t) (clearing_of h kind ∷ [])
  clearing_told News = ap (λ (b : Bool). told_faults b (faults_in which.conversions h)) clearing_news ∙ clearing_is
  clearing_told All = clearing_is
  clearing_told Changes =
      ap (λ (o : Option Kind). changes_of (version_for which.conversions h.name) (last_bytes (sent_before (spoken_in (active_among ms)) h)) h o (lamps_of h.message.bytes))
      (ap kind_of (by_request h.message.pgn h.message.bytes kind asks))

  abbrev taken_clearing : List Fault
  taken_clearing = told_faults (tells_clearing which.telling && is_asked) (clearing_of h kind ∷ [])

  -- what is added is that, where it is told and asked for
  clears_next : faults_taken which.asked first (told_next which ms (Some h)) ≡ taken_clearing
  clears_next = taken_next which first ms h ∙ (λ i. told_faults (sym asked_is i) ((next_yes which ms h (asks_to h kind asks) ∙ clearing_told which.telling) i))
      ∙ told_both (tells_clearing which.telling) is_asked (clearing_of h kind ∷ [])

  pub tells_asking : (made : Made) (old new : Option (List ℕ)) → Remembers which.telling last ms → length h.message.bytes ≤ 1785 → made.messages ≡ 1
      → made.lines ≡ lines_in rows taken_clearing → made.lines < 2 ^ 64
      → Appends old new (faults_text form rows taken_clearing) → Tells form rows which first last ms (Some h) made old new
  tells_asking made old new remembers short messages lines fits written =
      let among = among_yes h (asks_to h kind asks) in
      record {
        remembers = elim (cases_Bool (is_in_time which.asked first h.stamp)) [
          | inl now ↦ subst (λ (x : List Hearing). Remembers which.telling last (ms ++ x)) (sym (ap (in_time which.asked first) among ∙ in_time_yes which.asked first h now)) (remembers_asked which.telling last ms h kind asks remembers short)
          | inr passed ↦ subst (Remembers which.telling last) (sym (ap (λ (x : List Hearing). ms ++ in_time which.asked first x) among ∙ ap (λ (x : List Hearing). ms ++ x) (in_time_no which.asked first h passed) ∙ append-nil ms)) remembers
        ];
        made_is = same_made _ _ (messages ∙ sym (ap (λ (x : List Hearing). capped (length x)) among))
            (sym (ap (λ (x : List Fault). capped (lines_in rows x)) clears_next ∙ ap capped (sym lines) ∙ capped-fits made.lines fits));
        written = subst (Appends old new) (sym (ap (faults_text form rows) clears_next)) written;
      }

  pub clearing_front : (old new : Option (List ℕ)) → AppendsFront old new (faults_text form rows taken_clearing)
      → TellsFront form rows which first ms (Some h) old new
  clearing_front old new front = subst (AppendsFront old new) (sym (ap (faults_text form rows) clears_next)) front
