-- The steps of a summary, frame by frame: nothing is written before its end.
use Rattle.std.specs.Prelude.{◌≡◌, ◌++◌, ◌∷◌, [], ℕ, List, Option, length}
use Rattle.std.specs.List.{flat_map}
use Rattle.j39_memory.specs.ByOrigin.{pairs_of}
use Rattle.j39_frame.specs.Frame.{FrameRecord}
use Rattle.j39_groups.specs.Row.{RowRecord}
use Rattle.j39_listen.specs.Counting.{capped}
use Rattle.j39_listen.specs.Chooses.{Chooses}
use Rattle.j39_listen.specs.Filter.{FilterRecord, first_stamp, messages_taken}
use Rattle.j39_listen.specs.Heard.{AreHeard, HeardAt, Hearing, or_none}
use Rattle.j39_listen.specs.Listening.{Hears}
use Rattle.j39_listen.specs.Output.{Output, nothing}
use Rattle.j39_listen.specs.Report.{Entry, entries_of}
use Rattle.j39_reports.specs.RowsSoFar.{AreCounted, AreRowsOf}
use Rattle.j39_reports.specs.Summary.{absences_of}
use Rattle.j39_listen.specs.declared.listener.Listener.{Listener}
use Rattle.j39_frame.specs.declared.origin.Origin.{Origin}
use Rattle.j39_listen.specs.declared.format.Format.{Format}
use Rattle.j39_reports.specs.declared.summaries.account.SummaryAccount.{SummaryAccount}
use Rattle.j39_reports.specs.declared.summaries.rows.Rows.{Rows}

-- in which form, of what, and by which table it is summed
pub record SummaryAsked : Type 0 where
  pub form : Format
  pub which : FilterRecord
  pub rows : List RowRecord

-- the rows are those of what the filter takes of what is heard in F by this table, and the listener was fed F
pub record HasSummed (form : Format) (which : FilterRecord) (groups : List RowRecord) (summary : SummaryAccount)
    (F : List FrameRecord) (output : Output) : Type 0 where
  pub by : summary.roles.groups.now ≡ groups
  pub form_is : summary.form ≡ form
  pub chooses : Chooses which summary.chooser F
  pub heard : List Hearing
  pub are_heard : AreHeard groups F heard
  pub hears : Hears summary.listener F
  pub are_rows : AreRowsOf (pairs_of summary.rows.rows) (flat_map (entries_of groups) (messages_taken which (first_stamp F) heard))
  pub are_counted : AreCounted (pairs_of summary.rows.absences.counts)
      (flat_map (absences_of groups) (messages_taken which (first_stamp F) heard))
  pub messages_are : summary.messages ≡ capped (length heard)
  pub nothing_yet : output ≡ nothing

-- behind the frames F this is heard at the frame f; where the filter takes it, its entries went to the rows of the entries before,
-- and what is not available in it to those counts
pub record NotesFrame (which : FilterRecord) (groups : List RowRecord) (F : List FrameRecord) (f : FrameRecord) (l' : Listener)
    (rows : Rows) (before : List Entry) (absent : List Origin) (messages : ℕ) : Type 0 where
  pub heard : Option Hearing
  pub heard_at : HeardAt groups (F ++ f ∷ []) (length F) heard
  pub hears : Hears l' (F ++ f ∷ [])
  pub are_rows : AreRowsOf (pairs_of rows.rows) (before ++ flat_map (entries_of groups) (messages_taken which (first_stamp (F ++ f ∷ [])) (or_none heard)))
  pub are_counted : AreCounted (pairs_of rows.absences.counts)
      (absent ++ flat_map (absences_of groups) (messages_taken which (first_stamp (F ++ f ∷ [])) (or_none heard)))
  pub messages_are : messages ≡ length (or_none heard)
