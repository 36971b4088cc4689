-- The steps of a run that tells faults, frame by frame.
use Rattle.std.specs.Prelude.{◌≡◌, ◌++◌, ◌∷◌, [], ℕ, Bool, true, false, List, Option, bytes_eq, ◌&&◌, not, if◌then◌else◌, length, option_map, None, Some, Err, IfOk, OnOk, Result, ◌<◌, ◌^◌, ◌+◌, count_by}
use Rattle.std.specs.Io.KnownBytes.{Appends}
use Rattle.j39_io.specs.Device.{AppendsFront}
use Rattle.j39_io.specs.Turn.{Turn}
use Rattle.j39_listen.specs.AccountCalls.{LeavesWriter}
use Rattle.j39_listen.specs.Counting.{capped}
use Rattle.j39_listen.specs.declared.account.LineFault.{LineFault}
use Rattle.j39_listen.specs.declared.account.LineFault.TheVariants.{Write}
use Rattle.std.specs.List.{flat_map}
use Rattle.j39_faults.specs.Changes.{change_since, clearing_by}
use Rattle.j39_faults.specs.Text.{lamps_told}
use Rattle.j39_faults.specs.declared.change.Change.{Change}
use Rattle.j39_faults.specs.declared.code.Code.{Code}
use Rattle.j39_faults.specs.declared.conversion.Version.{Version}
use Rattle.j39_faults.specs.declared.kind.Kind.{Kind}
use Rattle.j39_faults.specs.declared.lamps.Lamps.{Lamps}
use Rattle.j39_frame.specs.Frame.{FrameRecord}
use Rattle.j39_listen.specs.Chooses.{Chooses}
use Rattle.j39_listen.specs.Filter.{first_stamp, in_time}
use Rattle.j39_listen.specs.Heard.{AreHeardWith, Hearing, HeardAtWith, or_none}
use Rattle.j39_listen.specs.Listening.{Hears}
use Rattle.j39_listen.specs.Output.{Output}
use Rattle.j39_listen.specs.ReportSoFar.{made_of}
use Rattle.j39_listen.specs.declared.counts.Made.{Made}
use Rattle.j39_listen.specs.declared.listener.Listener.{Listener}
use Rattle.j39_faults.specs.declared.text.State.{State}
use Rattle.j39_fault_reports.specs.Faults.{Fault, Manner, faults_by, faults_taken, lights_asked, lines_in, manner_in, names_asked}
use Rattle.std.specs.Borrow.{Bor}
use Rattle.j39_names.specs.Naming.{naming_of}
use Rattle.j39_fault_reports.specs.declared.fault_news.form.Writing.{Writing}
use Rattle.j39_fault_reports.specs.FaultChanges.{became, changes_by}
use Rattle.j39_fault_reports.specs.Told.{told_here}
use Rattle.j39_fault_reports.specs.News.{Chosen, chosen_of, faults_among, is_fault_group, is_of_faults}
use Rattle.j39_fault_reports.specs.FaultRun.{faults_of}
use Rattle.j39_fault_reports.specs.FaultRows.{faults_text, lights_columns, said_columns}
use Rattle.j39_rows.specs.Row.{HeadRecord, row_text, text_or_nothing}
use Rattle.j39_fault_reports.specs.LastMessages.{LastRecord, differs, said_before}
use Rattle.j39_fault_reports.specs.Remembered.{Remembers, tells_changes}
use Rattle.j39_fault_reports.specs.Broken.{announces_codes, broken_in, is_whole}
use Rattle.j39_listen.specs.Counting.{one_if}
use Rattle.j39_fault_reports.specs.declared.fault_news.announced.Announced.{Announced}
use Rattle.j39_fault_reports.specs.declared.fault_news.changes.Side.{Side}
use Rattle.j39_fault_reports.specs.declared.fault_news.changes.Side.TheVariants.{Later, Earlier}
use Rattle.j39_fault_reports.specs.declared.fault_news.telling.Telling.{Telling}
use Rattle.j39_fault_reports.specs.declared.fault_news.telling.Telling.TheVariants.{News, All, Changes}
use Rattle.j39_fault_reports.specs.declared.fault_news.account.FaultNews.{FaultNews}
use Rattle.j39_listen.specs.declared.format.Format.{Format}
use Rattle.j39_fault_reports.specs.declared.fault_news.last_faults.LastFaults.{LastFaults}

-- the SPNs that are asked for, where some are
abbrev pub spns_now : Option (Bor (List ℕ)) → Option (List ℕ)
spns_now = option_map (λ spns. spns.now)

abbrev pub manner_of : Writing → Manner
manner_of w = manner_in w.form (naming_of w.naming.now) (spns_now w.spns)

-- what is said behind what stands before it, if its code is asked for
abbrev pub line_of : Format → HeadRecord → Manner → State → Lamps → Option Code → List ℕ
line_of form head manner how lamps code =
    if names_asked manner.spns code then row_text form head (said_columns manner.naming how lamps code) else []

-- whether lamps are told behind what was told of them before, and their line behind what stands before it
abbrev pub are_lit : Manner → List ℕ → Lamps → Bool
are_lit manner before lamps = not (bytes_eq (lamps_told lamps) before) && lights_asked manner

abbrev pub lights_line : Format → HeadRecord → Manner → List ℕ → Lamps → List ℕ
lights_line form head manner before lamps =
    if are_lit manner before lamps then row_text form head (lights_columns (text_or_nothing (lamps_told lamps))) else []

-- what is told of a message, where it is told
abbrev pub told_faults : Bool → List Fault → List Fault
told_faults is_told faults = if is_told then faults else []

-- whether one that asks to clear codes is told
abbrev pub tells_clearing : Telling → Bool
tells_clearing Changes = false
tells_clearing telling = true

-- whether the codes of a message are told
abbrev pub is_told : Telling → Bool → Bool
is_told News is_news = is_news
is_told All is_news = true
is_told Changes is_news = false

-- what is told of a message of codes, behind what was said before
abbrev pub told_since : Telling → Option Version → Option LastRecord → Hearing → Kind → Lamps → List Fault
told_since telling version last h kind lamps =
    if tells_changes telling kind then changes_by version (said_before last h.name) h lamps
    else told_faults (is_told telling (differs version last h.message.bytes h.name)) (faults_by version h (Some kind) (Some lamps))

-- what became of a code of one of two messages, the other having these
abbrev pub change_by : Side → List Code → Code → Option Change
change_by Later others code = change_since others code
change_by Earlier others code = clearing_by others code

-- of each
abbrev pub changed : Side → Hearing → Lamps → List Code → List Code → List Fault
changed side m lamps others cs = flat_map (λ code. became m lamps code (change_by side others code)) cs

-- what is told of what is heard next, or of nothing
abbrev pub told_next : Chosen → List Hearing → Option Hearing → List Fault
told_next which ms None = []
told_next which ms (Some h) = if is_of_faults h then told_here which ms (Some h) else []

-- what it adds
abbrev pub added : Format → Manner → Chosen → ℕ → List Hearing → Option Hearing → Output
added form manner which first ms heard = record {
  text = faults_text form manner (faults_taken which.asked first (told_next which ms heard));
  messages = length (faults_among (or_none heard));
  lines = lines_in manner (faults_taken which.asked first (told_next which ms heard));
}

-- a message is told so: these faults were written, or a front of them, or memory was refused before
pub record TellsFaults (form : Format) (manner : Manner) (faults : List Fault) (result : Result Made LineFault)
    (sink : Turn) : Type 0 where
  pub made : IfOk result (λ made. (made.messages ≡ 1) × (made.lines ≡ lines_in manner faults) × (made.lines < 2 ^ 64))
  pub written : OnOk result (Appends sink.old.bytes sink.new.bytes (faults_text form manner faults))
  pub stops : result ≡ Err Write → AppendsFront sink.old.bytes sink.new.bytes (faults_text form manner faults)
  pub writer : LeavesWriter result sink

-- behind these messages between the moments this was heard, and what is told of it was written
pub record Tells (form : Format) (manner : Manner) (which : Chosen) (first : ℕ) (last' : LastFaults) (ms : List Hearing)
    (heard : Option Hearing) (made : Made) (old new : Option (List ℕ)) : Type 0 where
  pub remembers : Remembers which.telling last' (ms ++ in_time which.asked first (faults_among (or_none heard)))
  pub made_is : made ≡ made_of (added form manner which first ms heard)
  pub written : Appends old new (added form manner which first ms heard).text

abbrev pub TellsFront : Format → Manner → Chosen → ℕ → List Hearing → Option Hearing → Option (List ℕ)
    → Option (List ℕ) → Type 0
TellsFront form manner which first ms heard old new = AppendsFront old new (added form manner which first ms heard).text

-- so many messages of codes were announced in the frames, and so many were heard in packets
abbrev pub announced_in : List FrameRecord → List Hearing → Announced
announced_in F heard =
    record { announced = capped (count_by announces_codes F); whole = capped (count_by is_whole heard) }

-- a frame more
abbrev pub with_frame : Announced → FrameRecord → Announced
with_frame a f = record a { announced = capped (a.announced + one_if (announces_codes f)) }

-- a message more, or none
abbrev pub with_heard : Announced → Hearing → Announced
with_heard a h = record a { whole = capped (a.whole + one_if (is_whole h)) }

abbrev pub with_either : Announced → Option Hearing → Announced
with_either a None = a
with_either a (Some h) = with_heard a h

-- so many were broken, by what was heard in the frames
pub record IsBroken (F : List FrameRecord) (n : ℕ) : Type 0 where
  pub heard : List Hearing
  pub are_heard : AreHeardWith is_fault_group F heard
  pub broken_is : n ≡ broken_in F heard

-- behind the frames F, of which these messages were heard, this is heard at the frame f, and was told
pub record MeetsFrame (form : Format) (manner : Manner) (which : Chosen) (l' : Listener) (last' : LastFaults)
    (a a' : Announced) (F : List FrameRecord) (f : FrameRecord) (ms : List Hearing) (made : Made)
    (old new : Option (List ℕ)) : Type 0 where
  pub heard : Option Hearing
  pub announced_is : a' ≡ with_either (with_frame a f) heard
  pub heard_at : HeardAtWith is_fault_group (F ++ f ∷ []) (length F) heard
  pub hears : Hears l' (F ++ f ∷ [])
  pub tells : Tells form manner which (first_stamp (F ++ f ∷ [])) last' ms heard made old new

pub record StopsFrame (form : Format) (manner : Manner) (which : Chosen) (F : List FrameRecord)
    (f : FrameRecord) (ms : List Hearing) (old new : Option (List ℕ)) : Type 0 where
  pub heard : Option Hearing
  pub heard_at : HeardAtWith is_fault_group (F ++ f ∷ []) (length F) heard
  pub front : TellsFront form manner which (first_stamp (F ++ f ∷ [])) ms heard old new

-- the table of parameters and those that are asked for, and what is chosen
pub record Subject : Type 0 where
  pub manner : Manner
  pub which : Chosen

-- the faults in F were told in this form, by this table
pub record HasTold (form : Format) (s : Subject) (news : FaultNews) (F : List FrameRecord) (output : Output)
    : Type 0 where
  pub form_is : news.writing.form ≡ form
  pub by : manner_of news.writing ≡ s.manner
  pub chosen_is : chosen_of news.choice ≡ s.which
  pub chooses : Chooses s.which.asked news.chooser F
  pub heard : List Hearing
  pub are_heard : AreHeardWith is_fault_group F heard
  pub output_is : output ≡ faults_of form s.manner s.which (first_stamp F) (faults_among heard)
  pub hears : Hears news.listener F
  pub remembers : Remembers s.which.telling news.last (in_time s.which.asked (first_stamp F) (faults_among heard))
  pub made_is : news.made ≡ made_of output
  pub announced_is : news.announced ≡ announced_in F heard

-- so many of the frames in which faults were told
abbrev pub KnowsBroken : FaultNews → ℕ → Type 0
KnowsBroken news n = (form : Format) (s : Subject) (F : List FrameRecord) (output : Output) → HasTold form s news F output
    → IsBroken F n
