-- What is written of a log by a table.
use Rattle.j39_names.specs.Naming.{by_table}
use Rattle.j39_groups.specs.Row.{RowRecord}
use Rattle.std.specs.Prelude.{List, None}
use Rattle.j39_listen.specs.Asking.{AsksForBoxes, Wanting}
use Rattle.j39_listen.specs.Filter.{no_filter}
use Rattle.j39_listen.specs.Headed.{Headed}
use Rattle.j39_listen.specs.Output.{Making, MakesReport}
use Rattle.j39_listen.specs.declared.format.Clock.TheVariants.{Seconds}
use Rattle.j39_listen.specs.declared.format.Format.TheVariants.{Line, Record}
use Rattle.j39_reports.specs.EntryText.{header_text}
use Rattle.j39_fault_reports.specs.FaultAsking.{AsksForFaults}
use Rattle.j39_fault_reports.specs.FaultRun.{MakesFaults}
use Rattle.j39_fault_reports.specs.Faults.{manner_in}
use Rattle.j39_reports.specs.ReportRecords.{MakesRecords}
use Rattle.j39_reports.specs.SummaryRun.{AsksForRows, MakesSummary}
use Rattle.j39_fault_reports.specs.News.{news}
use Rattle.j39_fault_reports.specs.declared.fault_news.telling.Telling.TheVariants.{News}
use Rattle.j39_web.specs.Series.{MakesSeries}
use Rattle.j39_web.specs.declared.writing.Writing.{Writing}
use Rattle.j39_web.specs.declared.writing.Writing.TheVariants.{Report, Records, Summary, Faults, Series}

-- the names of the columns, and a record for each value of the report
abbrev pub MakesTable : List RowRecord → Making
MakesTable rows = Headed header_text (MakesRecords rows no_filter)

-- which outputs are made of the frames of a bus
abbrev pub makes : Writing → List RowRecord → Making
makes Report = MakesReport
makes Records = MakesTable
makes Summary = MakesSummary Record no_filter
makes Faults = λ rows. MakesFaults (Line Seconds) (manner_in (Line Seconds) (by_table rows) None) news
makes (Series of) = MakesSeries of

-- at which frames memory is wanted
abbrev pub asks : Writing → List RowRecord → Wanting
asks Report = λ rows. AsksForBoxes
asks Records = λ rows. AsksForBoxes
asks Summary = AsksForRows no_filter
asks Faults = λ rows. AsksForFaults News no_filter
asks (Series of) = λ rows. AsksForBoxes
