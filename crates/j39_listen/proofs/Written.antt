-- What a run writes tells of publishers what was published.
use Rattle.std.proofs.Common.{◌∙◌, [], ℕ, List, Option, IfSome, Some, None, ap, refl, subst}
use Rattle.j39_log.specs.Log.{frames_of}
use Rattle.std.proofs.KnownBytes.{Appends-nil}
use Rattle.j39_listen.proofs.FilterLemmas.{either_order}
use Rattle.j39_listen.proofs.HeadedLemmas.{writes_headed}
use Rattle.j39_listen.proofs.Headline.{published, repeated, thinned}
use Rattle.j39_frame.specs.Frame.{FrameRecord}
use Rattle.j39_listen.specs.Filter.{FilterRecord, MakesFilteredIn, first_stamp, taken, takes}
use Rattle.j39_listen.specs.Headed.{Headed, headed}
use Rattle.j39_listen.specs.Published.{is_publisher}
use Rattle.j39_listen.specs.Values.{TellsTaken}
use Rattle.j39_listen.specs.Report.{Entry, Form, IsReport, entries_of}
use Rattle.j39_listen.specs.Output.{MakesReport, Output}
use Rattle.j39_listen.specs.Run.{Writes, WritesAsked, WritesPublished}
use Rattle.j39_listen.specs.declared.counts.Counts.{Counts}
use Rattle.std.specs.List.{flat_map}
use Rattle.std.specs.Io.KnownBytes.{Appends}
use Rattle.j39_groups.specs.Row.{RowRecord}

tells : (groups : List RowRecord) (given : Option (List ℕ)) (log : List ℕ) (counts : Counts) (old new : Option (List ℕ)) → Writes (MakesReport groups) given log counts old new → WritesPublished groups given log old new
tells groups given log counts old new w =
    let entries : List Entry = flat_map (entries_of groups) w.is_made.0 in
    let report : IsReport groups (frames_of given w.spelled) entries = (w.is_made.0, w.is_made.1, refl) in
    record {
      spelled = w.spelled;
      is_log = w.is_log;
      entries = entries;
      are_reported = report;
      written = subst (λ (o : Output). Appends old new o.text) w.is_made.2 w.written;
      published = published groups (frames_of given w.spelled) entries report;
      thinned = thinned groups (frames_of given w.spelled) entries report;
      repeated = repeated groups (frames_of given w.spelled) entries report;
    }

-- where the source told its log
pub tells_published : (groups : List RowRecord) (given log : Option (List ℕ)) (counts : Counts) (old new : Option (List ℕ))
    → IfSome log (λ l. Writes (MakesReport groups) given l counts old new) → IfSome log (λ l. WritesPublished groups given l old new)
tells_published groups given None counts old new h = tt
tells_published groups given (Some log) counts old new h = tells groups given log counts old new h

-- ---- what a filter takes

tells_taken : (which : FilterRecord) (first : ℕ) (groups : List RowRecord) (H : List FrameRecord) (report : List Entry) → IsReport groups H report
    → TellsTaken which first groups H (taken which first report)
tells_taken which first groups H report is = record {
  published = λ P sent. either_order (λ e. is_publisher P e.address) (takes which first) report ∙ ap (taken which first) (published groups H report is P sent);
  thinned = λ F P X sent lost together.
      either_order (λ e. is_publisher P e.address) (takes which first) report ∙ ap (taken which first) (thinned groups H report is F P X sent lost together);
  repeated = λ F G P X sent lost together again.
      either_order (λ e. is_publisher P e.address) (takes which first) report ∙ ap (taken which first) (repeated groups H report is F G P X sent lost together again);
}

pub tells_asked : (head : List ℕ) (form : Form) (which : FilterRecord) (groups : List RowRecord) (given : Option (List ℕ)) (log : List ℕ) (counts : Counts) (old new : Option (List ℕ))
    → Writes (Headed head (MakesFilteredIn form groups which)) given log counts old new → WritesAsked head form which groups given log old new
tells_asked head form which groups given log counts old new w =
    let F = frames_of given w.spelled in
    let below = w.is_made.0 in
    let made = w.is_made.1 in
    let report : List Entry = flat_map (entries_of groups) made.0 in
    let is : IsReport groups F report = (made.0, made.1, refl) in
    record {
      spelled = w.spelled;
      is_log = w.is_log;
      report = report;
      is_report = is;
      entries = taken which (first_stamp F) report;
      entries_are = refl;
      written = subst (λ (o : Output). Appends old new o.text) (w.is_made.2 ∙ ap (headed head) made.2) w.written;
      tells = tells_taken which (first_stamp F) groups F report is;
    }

-- where the source told its log
pub asked_of_log : (form : Form) (which : FilterRecord) (groups : List RowRecord) (given log : Option (List ℕ)) (counts : Counts) (old new : Option (List ℕ))
    → IfSome log (λ l. Writes (MakesFilteredIn form groups which) given l counts old new)
    → IfSome log (λ l. WritesAsked [] form which groups given l old new)
asked_of_log form which groups given None counts old new h = tt
asked_of_log form which groups given (Some log) counts old new h =
    tells_asked [] form which groups given log counts old new (writes_headed [] (MakesFilteredIn form groups which) given log counts old old new (Appends-nil old) h)

-- and behind a head
pub asked_behind : (head : List ℕ) (form : Form) (which : FilterRecord) (groups : List RowRecord) (given log : Option (List ℕ)) (counts : Counts) (old new : Option (List ℕ))
    → IfSome log (λ l. Writes (Headed head (MakesFilteredIn form groups which)) given l counts old new)
    → IfSome log (λ l. WritesAsked head form which groups given l old new)
asked_behind head form which groups given None counts old new h = tt
asked_behind head form which groups given (Some log) counts old new h = tells_asked head form which groups given log counts old new h
