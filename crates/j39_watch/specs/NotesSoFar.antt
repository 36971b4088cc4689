-- The steps of a watch, frame by frame.
use Rattle.std.specs.Prelude.{◌≡◌, ◌++◌, ◌∷◌, [], ℕ, Bool, List, Option, if◌then◌else◌, length, option_map, reverse, unwrap_or}
use Rattle.j39_frame.specs.Frame.{FrameRecord}
use Rattle.j39_frame.specs.Stamp.{stamp_micros}
use Rattle.j39_groups.specs.Row.{RowRecord}
use Rattle.j39_listen.specs.Counting.{capped}
use Rattle.j39_listen.specs.Chooses.{Chooses}
use Rattle.j39_listen.specs.Filter.{FilterRecord, first_stamp, in_time}
use Rattle.j39_listen.specs.Heard.{AreHeard, AreHeardWith, HeardAt, HeardAtWith, Hearing, or_none}
use Rattle.j39_listen.specs.Listening.{Hears}
use Rattle.j39_listen.specs.Output.{Output}
use Rattle.j39_listen.specs.Report.{Entry, entries_of}
use Rattle.j39_listen.specs.declared.listener.Listener.{Listener}
use Rattle.j39_memory.specs.ByOrigin.{pairs_of}
use Rattle.j39_fault_reports.specs.CurrentPlaces.{LastActives}
use Rattle.j39_fault_reports.specs.CurrentSoFar.{AreKept, taken_below}
use Rattle.j39_fault_reports.specs.Spoken.{active_among}
use Rattle.j39_watch.specs.LatestSoFar.{AreLatest}
use Rattle.j39_fault_reports.specs.News.{is_fault_group}
use Rattle.j39_watch.specs.ScreenSoFar.{lines_of_faults}
use Rattle.j39_names.specs.Naming.{NamingRecord, naming_of}
use Rattle.j39_reports.specs.SummaryRun.{WantsRow}
use Rattle.j39_watch.specs.Watch.{AreDrawn, Line, Size, entries_asked, newest, screen_text}
use Rattle.j39_watch.specs.declared.account.Screens.{Screens}
use Rattle.j39_watch.specs.declared.size.ScreenSize.{ScreenSize}
use Rattle.j39_watch.specs.declared.values.Values.{Values}

-- a message, if it counts
abbrev pub if_counts : Bool → Hearing → List Hearing
if_counts counts h = if counts then h ∷ [] else []

-- one of its entries wants memory, behind these entries
pub record WantsOne (groups : List RowRecord) (before : List Entry) (h : Hearing) : Type 0 where
  pub taken : List Entry
  pub entry : Entry
  pub rest : List Entry
  pub entries_are : entries_of groups h ≡ taken ++ (entry ∷ rest)
  pub wanted : WantsRow (before ++ taken) entry

-- behind the frames F this is heard at the frame f of values and of faults, and what is asked for was noted behind those before
pub record Notes (groups : List RowRecord) (which : FilterRecord) (F : List FrameRecord) (f : FrameRecord) (l' : Listener) (values : Values) (places : LastActives)
    (before : List Entry) (ms : List Hearing) (messages : ℕ) : Type 0 where
  pub heard : Option Hearing
  pub heard_at : HeardAt groups (F ++ f ∷ []) (length F) heard
  pub fault : Option Hearing
  pub fault_at : HeardAtWith is_fault_group (F ++ f ∷ []) (length F) fault
  pub hears : Hears l' (F ++ f ∷ [])
  pub are_latest : AreLatest (pairs_of values.rows) (before ++ entries_asked groups which (first_stamp (F ++ f ∷ [])) (or_none heard))
  pub are_kept : AreKept [] places (ms ++ in_time which (first_stamp (F ++ f ∷ [])) (active_among (or_none fault)))
  pub messages_are : messages ≡ length (or_none heard)

-- by which names and groups it is watched, what is asked for, and how large its screens are
pub record Watching : Type 0 where
  pub naming : NamingRecord
  pub groups : List RowRecord
  pub which : FilterRecord
  pub size : Size

abbrev pub size_of : ScreenSize → Size
size_of size = record { rows = size.rows; width = size.width; is_coloured = size.is_coloured; clock = size.clock }

-- the moment of its screen
abbrev pub moment_of : Screens → ℕ
moment_of watch = unwrap_or (option_map stamp_micros watch.moment.last) 0

-- the lines of its screen, and the screen, of what is asked for
abbrev pub lines_of_watch : FilterRecord → ℕ → Screens → List Line
lines_of_watch which first watch =
    lines_of_faults watch.size.clock (naming_of watch.naming) watch.listener (moment_of watch) (taken_below which first watch.places 256) watch.values

abbrev pub screen_of_watch : FilterRecord → ℕ → Screens → List ℕ
screen_of_watch which first watch = screen_text (size_of watch.size) (lines_of_watch which first watch)

-- what it keeps is of F, by these names and groups, of what is asked for, for screens of this size
pub record Keeps (naming : NamingRecord) (groups : List RowRecord) (which : FilterRecord) (size : Size) (watch : Screens) (F : List FrameRecord) : Type 0 where
  pub named : naming_of watch.naming ≡ naming
  pub by : watch.roles.groups.now ≡ groups
  pub size_is : size_of watch.size ≡ size
  pub last_is : option_map stamp_micros watch.moment.last ≡ newest (reverse F)
  pub chooses : Chooses which watch.chooser F
  pub hears : Hears watch.listener F
  pub heard : List Hearing
  pub are_heard : AreHeard groups F heard
  pub are_latest : AreLatest (pairs_of watch.values.rows) (entries_asked groups which (first_stamp F) heard)
  pub faults : List Hearing
  pub are_faults : AreHeardWith is_fault_group F faults
  pub are_kept : AreKept [] watch.places (in_time which (first_stamp F) (active_among faults))
  pub messages_are : watch.messages ≡ capped (length heard)

-- F was watched, and its screens so far drawn
pub record HasWatched (naming : NamingRecord) (groups : List RowRecord) (which : FilterRecord) (size : Size) (watch : Screens) (F : List FrameRecord) (output : Output) : Type 0 where
  pub keeps : Keeps naming groups which size watch F
  pub drawn : AreDrawn naming groups which size F (length F) output.text
