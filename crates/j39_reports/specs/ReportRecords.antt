-- What a run makes of the frames of its bus: the records of their report.
use Rattle.std.specs.Prelude.{List}
use Rattle.j39_groups.specs.Row.{RowRecord}
use Rattle.j39_listen.specs.Filter.{FilterRecord, MakesFilteredIn}
use Rattle.j39_listen.specs.Output.{Making}
use Rattle.j39_reports.specs.EntryText.{entry_record}

-- a record for each entry that a filter takes
abbrev pub MakesRecords : List RowRecord → FilterRecord → Making
MakesRecords = MakesFilteredIn entry_record
