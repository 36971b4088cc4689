-- What a task comes to.
use Rattle.std.specs.Prelude.{ℕ, Bool, List, [], ◌∷◌, Option, None, Some, count_by, nat_lt}
use Rattle.j39_io.specs.Turn.{Turn}
use Rattle.j39_address.specs.Name.{name_raw}
use Rattle.j39_frame.specs.Identifier.{id_raw}
use Rattle.j39_names.specs.Naming.{NamingRecord}
use Rattle.j39_cli.specs.Form.{Meaning}
use Rattle.j39_cli.specs.Heads.{IsPerformedBelow}
use Rattle.j39_cli.specs.LogCommand.{is_input}
use Rattle.j39_cli.specs.AnswerCommand.{answer_meaning}
use Rattle.j39_cli.specs.CutCommand.{cut_meaning}
use Rattle.j39_cli.specs.FaultsCommand.{faults_meaning}
use Rattle.j39_cli.specs.GridCommand.{grid_meaning}
use Rattle.j39_cli.specs.GroupsCommand.{groups_meaning}
use Rattle.j39_cli.specs.IdCommand.{id_meaning}
use Rattle.j39_cli.specs.NameCommand.{name_meaning}
use Rattle.j39_cli.specs.NodesCommand.{nodes_meaning}
use Rattle.j39_cli.specs.ReportCommand.{report_meaning}
use Rattle.j39_cli.specs.SummaryCommand.{summary_meaning}
use Rattle.j39_cli.specs.SurveyCommand.{survey_meaning}
use Rattle.j39_cli.specs.WatchCommand.{watch_meaning}
use Rattle.j39_cli.specs.declared.task.Task.{Task}
use Rattle.j39_cli.specs.declared.task.Task.TheVariants.{Report, Summary, Grid, Faults, Nodes, Answer, Id, Name, Cut, Groups, Survey, Watch}

abbrev pub meaning_of : Task → Meaning
meaning_of (Report options) = report_meaning options
meaning_of (Summary options) = summary_meaning options
meaning_of (Grid options) = grid_meaning options
meaning_of (Faults options) = faults_meaning options
meaning_of (Nodes input names from told has_head) = nodes_meaning input names from told has_head
meaning_of (Answer name address input) = answer_meaning (name_raw name) address input
meaning_of (Id id) = id_meaning (id_raw id)
meaning_of (Name name) = name_meaning (name_raw name)
meaning_of (Cut outgoing) = cut_meaning outgoing
meaning_of (Groups table) = groups_meaning table
meaning_of (Survey input table names format) = survey_meaning input table names format
meaning_of (Watch options) = watch_meaning options

abbrev pub first_in : List (List ℕ) → Option (List ℕ)
first_in [] = None
first_in (file ∷ files) = Some file

-- each FILE of the task
abbrev pub files_of : Task → List (List ℕ)
files_of t = (meaning_of t).file

-- the first of them
abbrev pub file_of : Task → Option (List ℕ)
file_of t = first_in (files_of t)

-- standard input is asked for twice among them, and it can be read once
abbrev pub asks_input_twice : Task → Bool
asks_input_twice t = nat_lt 1 (count_by is_input (files_of t))

-- the table of parameters that the task names, where it may name one
abbrev pub table_of : Task → Option (List ℕ)
table_of t = (meaning_of t).table

-- the names of one's own that it names, where it may name some
abbrev pub names_of : Task → Option (List ℕ)
names_of t = (meaning_of t).names

-- the values of a task are those that the command line takes
abbrev pub IsInRange : Task → Type 0
IsInRange t = (meaning_of t).InRange

-- by names, their table of parameters and the command, below its head: its status, and what it leaves of the reader, the writer
-- and the error writer
abbrev pub IsPerformed : NamingRecord → Task → ℕ → Turn → Turn → Turn → Type 0
IsPerformed naming t = IsPerformedBelow (meaning_of t).head ((meaning_of t).Performs naming)

abbrev pub reads_log : Task → Bool
reads_log t = (meaning_of t).reads_log
