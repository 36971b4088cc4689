-- The command `report`.
use Rattle.std.specs.Prelude.{◌≡◌, ℕ, List, [], Option, Err, IfSome, codes}
use Rattle.j39_io.specs.Turn.{Turn}
use Rattle.clap.specs.Words.{App}
use Rattle.j39_groups.specs.Row.{RowRecord}
use Rattle.j39_listen.specs.Asking.{AsksForBoxes}
use Rattle.j39_listen.specs.Headed.{Headed}
use Rattle.j39_listen.specs.Filter.{FilterRecord, MakesFiltered, no_filter}
use Rattle.j39_listen.specs.Output.{Making}
use Rattle.j39_listen.specs.Report.{Form as EntryForm, entry_text}
use Rattle.j39_listen.specs.Run.{WritesAsked, WritesPublished, WritesWholeLines}
use Rattle.j39_listen.specs.declared.running.RunFault.TheVariants.{Read}
use Rattle.j39_reports.specs.ReportObjects.{MakesObjects}
use Rattle.j39_reports.specs.ReportRecords.{MakesRecords}
use Rattle.j39_reports.specs.EntryInUtc.{MakesInUtc, entry_in_utc}
use Rattle.j39_reports.specs.EntryObject.{entry_object}
use Rattle.j39_reports.specs.EntryText.{entry_record, header_text}
use Rattle.j39_cli.specs.Asked.{filter_in}
use Rattle.j39_cli.specs.Form.{Form, Meaning}
use Rattle.j39_cli.specs.LogCommand.{IsRun}
use Rattle.j39_cli.specs.RowOptions.{AreOptions, RowTexts, row_app, row_form, row_meaning}
use Rattle.j39_cli.specs.RowsRun.{IsRunBy, Running}
use Rattle.j39_listen.specs.declared.format.Clock.TheVariants.{Seconds, Utc}
use Rattle.j39_listen.specs.declared.format.Format.{Format}
use Rattle.j39_listen.specs.declared.format.Format.TheVariants.{Line, Object, Record}
use Rattle.j39_cli.specs.declared.options.RowOptions.{RowOptions}
use Rattle.j39_cli.specs.declared.task.Task.{Task}
use Rattle.j39_cli.specs.declared.task.Task.TheVariants.{Report}

-- ---- its words

abbrev pub report_app : App
report_app = row_app (codes "report")

abbrev pub IsReportTask : RowTexts → Task → Type 0
IsReportTask texts (Report o) = AreOptions texts o
IsReportTask texts t = ⊥

abbrev pub report_form : RowTexts → Form
report_form texts = row_form (codes "report") texts (IsReportTask texts)

-- ---- its run

-- what it makes of the frames by a table: the entries of the report that are asked for
abbrev pub makes_in : Format → FilterRecord → List RowRecord → Making
makes_in (Line Seconds) which rows = MakesFiltered rows which
makes_in (Line Utc) which rows = MakesInUtc rows which
makes_in Record which rows = Headed header_text (MakesRecords rows which)
makes_in Object which rows = MakesObjects rows which

-- what stands above it, and how it writes an entry
abbrev pub head_in : Format → List ℕ
head_in (Line clock) = []
head_in Record = header_text
head_in Object = []

abbrev pub form_in : Format → EntryForm
form_in (Line Seconds) = λ rows. entry_text
form_in (Line Utc) = λ rows. entry_in_utc
form_in Record = entry_record
form_in Object = entry_object

-- a run of the report by a table of parameters
pub record IsReported (which : FilterRecord) (format : Format) (bus : Option (List ℕ)) (rows : List RowRecord) (status : ℕ)
    (log out err : Turn) : Type 0 where
  pub run : IsRun AsksForBoxes (makes_in format which rows) bus status log out err
  -- the headline, where nothing is asked for: under the addresses of publishers its lines are exactly the values published
  pub published : status ≡ 0 → format ≡ Line Seconds → which ≡ no_filter
      → IfSome log.old.bytes (λ bytes. WritesPublished rows bus bytes out.old.bytes out.new.bytes)
  -- in each form, and by whatever is asked for: exactly those of these values that are asked for
  pub asked : status ≡ 0
      → IfSome log.old.bytes (λ bytes. WritesAsked (head_in format) (form_in format) which rows bus bytes out.old.bytes out.new.bytes)
  -- where a read ends it, all that the whole lines before it make was written
  pub kept_up : run.result ≡ Err Read
      → WritesWholeLines (makes_in format which rows) bus log.old.bytes log.new.bytes out.old.bytes out.new.bytes

-- by the table, or its rows of the parameters that are asked for
abbrev pub IsReportRun : RowOptions → Running
IsReportRun o = IsRunBy (IsReported (filter_in o.asked) o.format o.input.bus) o.asked.spns

-- what its columns in lines are called
abbrev pub report_columns : List ℕ
report_columns = codes "stamp address name pgn spn value"

abbrev pub report_meaning : RowOptions → Meaning
report_meaning o = row_meaning o report_columns (IsReportRun o)
