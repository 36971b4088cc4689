-- What a run makes of the frames of its bus: the objects of their report.
use Rattle.std.specs.Prelude.{List}
use Rattle.j39_groups.specs.Row.{RowRecord}
use Rattle.j39_listen.specs.Filter.{FilterRecord, MakesFilteredIn}
use Rattle.j39_listen.specs.Output.{Making}
use Rattle.j39_reports.specs.EntryObject.{entry_object}

-- an object for each entry that a filter takes
abbrev pub MakesObjects : List RowRecord → FilterRecord → Making
MakesObjects = MakesFilteredIn entry_object
