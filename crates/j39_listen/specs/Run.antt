-- What a run over a log writes and counts, whatever it makes of the frames.
use Rattle.std.specs.Prelude.{◌≡◌, ◌<◌, ◌≤◌, ◌++◌, ℕ, List, [], Option, length, unwrap_or}
use Rattle.std.specs.List.{flat_map}
use Rattle.std.specs.Io.KnownBytes.{Appends, Consumes}
use Rattle.j39_io.specs.Device.{AppendsFront}
use Rattle.j39_log.specs.Log.{HasNoNewline, IsLog, bus_of, ended, frames_of}
use Rattle.j39_log.specs.Spelled.{Spelled}
use Rattle.j39_groups.specs.Row.{RowRecord}
use Rattle.j39_listen.specs.Counting.{counts_of}
use Rattle.j39_listen.specs.Output.{Output, Making, Meeting}
use Rattle.j39_listen.specs.Filter.{FilterRecord, first_stamp, taken}
use Rattle.j39_listen.specs.Report.{Entry, Form, IsReport, text_of}
use Rattle.j39_listen.specs.Values.{TellsPublished, TellsRepeated, TellsTaken, TellsThinned}
use Rattle.j39_listen.specs.declared.counts.Counts.{Counts}

-- the name of the run's bus; empty where none is given and no line is a frame, so that nothing is on it
abbrev pub run_bus : Option (List ℕ) → List Spelled → List ℕ
run_bus given spelled = unwrap_or (bus_of given spelled) []

-- a run over the log with this bus or none given wrote what is made of its frames, and nothing else, and counted it
pub record Writes (makes : Making) (given : Option (List ℕ)) (log : List ℕ) (counts : Counts)
    (old new : Option (List ℕ)) : Type 0 where
  pub spelled : List Spelled
  pub is_log : IsLog log spelled
  pub output : Output
  pub is_made : makes (run_bus given spelled) (frames_of given spelled) output
  pub counts_are : counts ≡ counts_of given spelled output
  pub written : Appends old new output.text

-- a run that a read ended is not behind: it wrote what is made of the whole lines of the bytes that it took, as if they were
-- the log, and nothing else; of what stands behind their last newline, nothing
pub record WritesWholeLines (makes : Making) (given remaining remaining' old new : Option (List ℕ)) : Type 0 where
  pub lines : List (List ℕ)
  pub begun : List ℕ
  pub whole : HasNoNewline begun
  pub consumed : Consumes remaining remaining' (ended lines ++ begun)
  pub counts : Counts
  pub writes : Writes makes given (ended lines) counts old new

-- an account has met the log's frames on the run's bus
pub record HasMetLog {A : Type 0} (has_met : Meeting A) (given : Option (List ℕ)) (log : List ℕ) (account : A)
    : Type 0 where
  pub spelled : List Spelled
  pub is_log : IsLog log spelled
  pub output : Output
  pub met : has_met (run_bus given spelled) account (frames_of given spelled) output

-- what a run stopped with is a front of what is made of the frames in these bytes
abbrev pub WritesFront : Making → Option (List ℕ) → List ℕ → Option (List ℕ) → Option (List ℕ) → Type 0
WritesFront makes given taken old new =
    (spelled : List Spelled) (output : Output) → IsLog taken spelled
    → makes (run_bus given spelled) (frames_of given spelled) output → AppendsFront old new output.text

-- and so of these bytes and whatever follows them
abbrev pub WritesFrontOfMore : Making → Option (List ℕ) → List ℕ → Option (List ℕ) → Option (List ℕ) → Type 0
WritesFrontOfMore makes given taken old new = (more : List ℕ) → WritesFront makes given (taken ++ more) old new

-- a run that stopped took these bytes of its source, and wrote a front of what is made of them
pub record StopsWithin (makes : Making) (given remaining remaining' old new : Option (List ℕ)) : Type 0 where
  pub taken : List ℕ
  pub consumed : Consumes remaining remaining' taken
  pub written : WritesFront makes given taken old new

-- a run took at most so many bytes of its source
pub record TakesWithin (limit : ℕ) (remaining remaining' : Option (List ℕ)) : Type 0 where
  pub taken : List ℕ
  pub consumed : Consumes remaining remaining' taken
  pub fits : length taken ≤ limit

-- a run took these bytes, which are within the limit, and then those of the one read that passes it
pub record PassesLimit (limit : ℕ) (remaining remaining' : Option (List ℕ)) (taken : List ℕ) : Type 0 where
  pub read : List ℕ
  pub consumed : Consumes remaining remaining' (taken ++ read)
  pub fits : length taken ≤ limit
  pub passes : limit < length (taken ++ read)
  pub piece : length read ≤ 65536

-- a run stopped at the read that passes the limit: what it wrote is a front of what is made of the bytes before that read
pub record StopsAtLimit (makes : Making) (limit : ℕ)
    (given remaining remaining' old new : Option (List ℕ)) : Type 0 where
  pub taken : List ℕ
  pub passed : PassesLimit limit remaining remaining' taken
  pub written : WritesFront makes given taken old new

-- a run over the log wrote a line for each of these entries, which tell of publishers what was published in the log's
-- frames, whatever packets were lost and repeated on the way there
pub record WritesPublished (groups : List RowRecord) (given : Option (List ℕ)) (log : List ℕ)
    (old new : Option (List ℕ)) : Type 0 where
  pub spelled : List Spelled
  pub is_log : IsLog log spelled
  pub entries : List Entry
  pub are_reported : IsReport groups (frames_of given spelled) entries
  pub written : Appends old new (text_of entries)
  pub published : TellsPublished groups (frames_of given spelled) entries
  pub thinned : TellsThinned groups (frames_of given spelled) entries
  pub repeated : TellsRepeated groups (frames_of given spelled) entries

-- a run over the log wrote, behind this head and in this form, the entries that a filter takes of the report, and of publishers
-- they tell exactly what it takes of the values published
pub record WritesAsked (head : List ℕ) (form : Form) (which : FilterRecord) (groups : List RowRecord)
    (given : Option (List ℕ)) (log : List ℕ) (old new : Option (List ℕ)) : Type 0 where
  pub spelled : List Spelled
  pub is_log : IsLog log spelled
  pub report : List Entry
  pub is_report : IsReport groups (frames_of given spelled) report
  pub entries : List Entry
  pub entries_are : entries ≡ taken which (first_stamp (frames_of given spelled)) report
  pub written : Appends old new (head ++ flat_map (form groups) entries)
  pub tells : TellsTaken which (first_stamp (frames_of given spelled)) groups (frames_of given spelled) entries
