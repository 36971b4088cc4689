-- What is asked for and can't be had: parameters that no row of the table has, and moments between which none lies.
use Rattle.std.specs.Prelude.{◌++◌, ℕ, Bool, false, not, List, [], Option, None, Some, codes, decimal, if◌then◌else◌, is_some, nat_lt}
use Rattle.std.specs.List.{flat_map, list_any}
use Rattle.j39_groups.specs.Names.{parameter_name}
use Rattle.j39_groups.specs.Row.{RowRecord}
use Rattle.j39_listen.specs.declared.filter.Moment.{Moment}
use Rattle.j39_listen.specs.declared.filter.Moment.TheVariants.{At, Behind}
use Rattle.j39_cli.specs.Refusal.{error_line}
use Rattle.j39_cli.specs.declared.asked.Asked.{Asked}
use Rattle.j39_cli.specs.declared.task.Task.{Task}
use Rattle.j39_cli.specs.declared.task.Task.TheVariants.{Faults, Grid, Report, Summary, Watch}

-- a row that has the parameter gives it a name
abbrev pub has_row : List RowRecord → ℕ → Bool
has_row rows spn = is_some (parameter_name rows spn)

abbrev pub unknown_line : List RowRecord → ℕ → List ℕ
unknown_line rows spn = if has_row rows spn then [] else error_line (codes "no row has SPN ") (decimal spn)

-- a line for each that none has
abbrev pub unknown_words : List RowRecord → List ℕ → List ℕ
unknown_words rows spns = flat_map (unknown_line rows) spns

-- the parameters that a report, a summary, a grid or a watch is asked for
abbrev pub spns_of : Task → Option (List ℕ)
spns_of (Report options) = options.asked.spns
spns_of (Summary options) = options.asked.spns
spns_of (Grid options) = options.rows.asked.spns
spns_of (Watch options) = options.asked.spns
spns_of task = None

-- what is said of them
abbrev pub words_if : List RowRecord → Option (List ℕ) → List ℕ
words_if rows None = []
words_if rows (Some spns) = unknown_words rows spns

-- the last moment lies before the first: both are stamps, or both so long behind the first frame
abbrev pub are_turned : Option Moment → Option Moment → Bool
are_turned (Some (At since)) (Some (At until)) = nat_lt until since
are_turned (Some (Behind since)) (Some (Behind until)) = nat_lt until since
are_turned since until = false

abbrev pub turned_text : Asked → List ℕ
turned_text asked = if are_turned asked.since asked.until then error_line (codes "--since is behind --until") [] else []

abbrev pub asked_text : List RowRecord → Asked → List ℕ
asked_text rows asked = words_if rows asked.spns ++ turned_text asked

-- what is said of what a task asks for
abbrev pub unknown_text : List RowRecord → Task → List ℕ
unknown_text rows (Report options) = asked_text rows options.asked
unknown_text rows (Summary options) = asked_text rows options.asked
unknown_text rows (Grid options) = asked_text rows options.rows.asked
unknown_text rows (Watch options) = asked_text rows options.asked
unknown_text rows (Faults options) = turned_text options.rows.asked
unknown_text rows task = []

-- some are asked for, and no row has any of them
abbrev pub none_has : List RowRecord → Option (List ℕ) → Bool
none_has rows None = false
none_has rows (Some spns) = not (list_any (has_row rows) spns)

abbrev pub asks_for_unknown : List RowRecord → Task → Bool
asks_for_unknown rows task = none_has rows (spns_of task)
