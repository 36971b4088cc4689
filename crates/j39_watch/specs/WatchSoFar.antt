-- The steps of a watch: what its lines and screens have of the code's values.
use Rattle.std.specs.Prelude.{◌∷◌, [], ℕ, List, Option, if◌then◌else◌, take}
use Rattle.std.specs.List.{flat_map}
use Rattle.j39_frame.specs.declared.origin.Origin.{Origin}
use Rattle.j39_names.specs.Naming.{NamingRecord}
use Rattle.j39_fault_reports.specs.CurrentPlaces.{LastActives}
use Rattle.j39_fault_reports.specs.CurrentSoFar.{told_so_far}
use Rattle.j39_fault_reports.specs.FaultsNow.{Told}
use Rattle.j39_watch.specs.LatestSoFar.{latest_at, latest_row}
use Rattle.j39_watch.specs.Watch.{Line, Size, fault_shown_line, is_shown, is_there, row_shown, value_line}
use Rattle.j39_watch.specs.declared.latest.Latest as code

-- the line of what is told of faults, if it is shown
abbrev pub fault_lines : NamingRecord → (ℕ → Option ℕ) → ℕ → Told → List Line
fault_lines naming holder now t = if is_shown holder t then fault_shown_line naming now t ∷ [] else []

-- the line of a value, if its controller is there
abbrev pub value_lines : NamingRecord → (ℕ → Option ℕ) → ℕ → Origin × code.Latest → List Line
value_lines naming holder now (origin, latest) =
    if is_there holder origin.address origin.name
    then value_line naming now (latest_at now (latest_row (origin, latest))) ∷ []
    else []

-- the text of these lines, where there is room for so many
abbrev pub limited : Size → ℕ → List Line → List ℕ
limited size left lines = flat_map (row_shown size) (take left lines)

-- of all places
abbrev pub faults_of_places : NamingRecord → (ℕ → Option ℕ) → ℕ → LastActives → ℕ → List Line
faults_of_places naming holder now places n = flat_map (fault_lines naming holder now) (told_so_far places n)
