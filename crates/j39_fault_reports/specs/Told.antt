-- What is told of the messages of faults (own).
use Rattle.std.specs.Prelude.{◌++◌, [], ℕ, zero, suc, List, Option, Some, None, if◌then◌else◌, length, slice_get, take}
use Rattle.j39_faults.specs.declared.conversion.Conversion.{Conversion}
use Rattle.j39_listen.specs.Heard.{Hearing}
use Rattle.j39_fault_reports.specs.FaultChanges.{changes_in}
use Rattle.j39_fault_reports.specs.Faults.{Fault, faults_in}
use Rattle.j39_fault_reports.specs.News.{Chosen, is_news}
use Rattle.j39_fault_reports.specs.declared.fault_news.telling.Telling.{Telling}
use Rattle.j39_fault_reports.specs.declared.fault_news.telling.Telling.TheVariants.{News, All, Changes}

-- what is told of a message, behind those before it
abbrev pub told_of : Telling → List Conversion → List Hearing → Hearing → List Fault
told_of News conversions before m = if is_news conversions before m then faults_in conversions m else []
told_of All conversions before m = faults_in conversions m
told_of Changes conversions before m = changes_in conversions before m

-- of that at a place
abbrev pub told_here : Chosen → List Hearing → Option Hearing → List Fault
told_here which before None = []
told_here which before (Some m) = told_of which.telling which.conversions before m

-- of those at the first n places, in order
unfoldable pub told_below : Chosen → List Hearing → ℕ → List Fault
told_below which ms zero = []
told_below which ms (suc n) = told_below which ms n ++ told_here which (take n ms) (slice_get ms n)

-- of all
abbrev pub told : Chosen → List Hearing → List Fault
told which ms = told_below which ms (length ms)
