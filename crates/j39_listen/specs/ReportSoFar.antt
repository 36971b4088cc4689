-- The steps of a report in whatever form, frame by frame.
use Rattle.std.specs.Prelude.{◌≡◌, ◌+◌, ◌++◌, ◌∷◌, [], List, Option, None, Some, length, ℕ}
use Rattle.std.specs.Io.KnownBytes.{Appends}
use Rattle.j39_io.specs.Device.{AppendsFront}
use Rattle.j39_frame.specs.Frame.{FrameRecord}
use Rattle.j39_groups.specs.Row.{RowRecord}
use Rattle.j39_listen.specs.Chooses.{Chooses}
use Rattle.j39_listen.specs.Counting.{capped}
use Rattle.j39_listen.specs.Filter.{FilterRecord, MakesFilteredIn, filtered_of, first_stamp}
use Rattle.j39_listen.specs.Heard.{AreHeard, Hearing, HeardAt, or_none}
use Rattle.j39_listen.specs.Listening.{Hears}
use Rattle.j39_listen.specs.Output.{Making, Output}
use Rattle.j39_listen.specs.Report.{Form}
use Rattle.j39_listen.specs.declared.counts.Made.{Made}
use Rattle.j39_listen.specs.declared.listener.Listener.{Listener}
use Rattle.j39_listen.specs.declared.report.Report.{Report}

-- the numbers of what was made
abbrev pub made_of : Output → Made
made_of output = record { messages = capped output.messages; lines = capped output.lines }

abbrev pub made_sum : Made → Made → Made
made_sum a b = record { messages = capped (a.messages + b.messages); lines = capped (a.lines + b.lines) }

-- the numbers of a message with so many lines, or of none
abbrev pub made_by : Option ℕ → Made
made_by None = record { messages = 0; lines = 0 }
made_by (Some n) = record { messages = 1; lines = n }

-- what a report is of
pub record Subject : Type 0 where
  pub rows : List RowRecord
  pub which : FilterRecord

abbrev pub Makes : Form → Subject → Making
Makes form subject = MakesFilteredIn form subject.rows subject.which

-- the report of F in this form was made, and its listener was fed F
pub record HasReported {E : Type 0} (form : Form) (table : E → List RowRecord) (subject : Subject) (report : Report E)
    (F : List FrameRecord) (output : Output) : Type 0 where
  pub by : report.roles.groups.now ≡ subject.rows
  pub form_by : table report.form ≡ subject.rows
  pub chooses : Chooses subject.which report.chooser F
  pub heard : List Hearing
  pub are_heard : AreHeard subject.rows F heard
  pub output_is : output ≡ filtered_of form subject.rows subject.which (first_stamp F) heard
  pub hears : Hears report.listener F
  pub made_is : report.made ≡ made_of output

-- behind the frames F this is heard at the frame f, and what is taken of it was written
pub record MeetsFrame (form : Form) (subject : Subject) (l' : Listener) (F : List FrameRecord) (f : FrameRecord) (made : Made)
    (old new : Option (List ℕ)) : Type 0 where
  pub heard : Option Hearing
  pub heard_at : HeardAt subject.rows (F ++ f ∷ []) (length F) heard
  pub hears : Hears l' (F ++ f ∷ [])
  pub made_is : made ≡ made_of (filtered_of form subject.rows subject.which (first_stamp (F ++ f ∷ [])) (or_none heard))
  pub written : Appends old new (filtered_of form subject.rows subject.which (first_stamp (F ++ f ∷ [])) (or_none heard)).text

-- behind the frames F this is heard at the frame f, and a front of what is taken of it was written
pub record StopsFrame (form : Form) (subject : Subject) (F : List FrameRecord) (f : FrameRecord) (old new : Option (List ℕ))
    : Type 0 where
  pub heard : Option Hearing
  pub heard_at : HeardAt subject.rows (F ++ f ∷ []) (length F) heard
  pub front : AppendsFront old new (filtered_of form subject.rows subject.which (first_stamp (F ++ f ∷ [])) (or_none heard)).text
