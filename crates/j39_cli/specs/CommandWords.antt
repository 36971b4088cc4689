-- The commands, each with the texts of its values.
use Rattle.std.specs.Prelude.{◌≡◌, ◌∷◌, Bool, List, Option, Err, IfOk, codes, if◌then◌else◌}
use Rattle.std.specs.Str.{bytes_eq}
use Rattle.clap.specs.Words.{Row, Text, first_value, rows_of}
use Rattle.clap.specs.declared.parser.matches.Found.{Found}
use Rattle.j39_cli.specs.Answer.{Answer, AreChecked, OrMemory}
use Rattle.j39_cli.specs.Asked.{AskedTexts, asked_found}
use Rattle.j39_cli.specs.Form.{Form, HaveTexts, HaveValues, WantsMemory, text_found, texts_found, words_in}
use Rattle.j39_cli.specs.AnswerCommand.{answer_form}
use Rattle.j39_cli.specs.CutCommand.{cut_form}
use Rattle.j39_cli.specs.FaultsCommand.{faults_form}
use Rattle.j39_cli.specs.GridCommand.{grid_form}
use Rattle.j39_cli.specs.GroupsCommand.{groups_form}
use Rattle.j39_cli.specs.IdCommand.{id_form}
use Rattle.j39_cli.specs.NameCommand.{name_form}
use Rattle.j39_cli.specs.NodesCommand.{nodes_form}
use Rattle.j39_cli.specs.ReportCommand.{report_form}
use Rattle.j39_cli.specs.RowOptions.{RowTexts, rows_found}
use Rattle.j39_cli.specs.SummaryCommand.{summary_form}
use Rattle.j39_cli.specs.SurveyCommand.{survey_form}
use Rattle.j39_cli.specs.WatchCommand.{watch_form}
use Rattle.j39_cli.specs.Rules.{is_given}
use Rattle.j39_cli.specs.Task.{IsInRange}
use Rattle.j39_cli.specs.declared.task.ParseFault.TheVariants.{Memory}

-- a command with the texts of its values, in the order of its spelling
pub data CommandWords : Type 0 where
  report : RowTexts → CommandWords
  summary : RowTexts → CommandWords
  grid : Option Text → RowTexts → CommandWords
  faults : Option Text → Option Text → Bool → Bool → Bool → RowTexts → CommandWords
  nodes : Option Text → Option Text → Option Text → Bool → Option Text → Bool → Bool → Bool → Bool → List Text → CommandWords
  answer : Text → Text → Option Text → List Text → CommandWords
  id : Text → CommandWords
  name : Text → CommandWords
  cut : Text → Text → Text → Text → Text → CommandWords
  groups : Option Text → CommandWords
  survey : Option Text → Option Text → Option Text → Bool → Bool → Bool → List Text → CommandWords
  watch : Option Text → Option Text → Option Text → AskedTexts → Option Text → Option Text → Bool → Bool → List Text → CommandWords

abbrev pub form_of : CommandWords → Form
form_of (report texts) = report_form texts
form_of (summary texts) = summary_form texts
form_of (grid every texts) = grid_form every texts
form_of (faults names conversion all changes now texts) = faults_form names conversion all changes now texts
form_of (nodes bus names from seen silent head csv json utc file) = nodes_form bus names from seen silent head csv json utc file
form_of (answer node address bus file) = answer_form node address bus file
form_of (id hex) = id_form hex
form_of (name hex) = name_form hex
form_of (cut source pgn at bus hex) = cut_form source pgn at bus hex
form_of (groups table) = groups_form table
form_of (survey bus table names csv json utc file) = survey_form bus table names csv json utc file
form_of (watch bus table names asked rows width colour utc file) = watch_form bus table names asked rows width colour utc file

-- the words after the program's name
abbrev pub words_of : CommandWords → List Text
words_of s = (form_of s).called ∷ words_in (form_of s).arguments

abbrev pub HasValues : CommandWords → Type 0
HasValues s = HaveValues (form_of s).arguments

-- the command that clap met, by its name and rows, has the texts of s
abbrev pub HasTexts : CommandWords → Text × List Row → Type 0
HasTexts s met = (met.0 ≡ (form_of s).called) × HaveTexts met.1 (form_of s).arguments

-- the command of this name, which clap knows, with the texts that are found
abbrev pub command_found : Text → Found → CommandWords
command_found called found =
    let bus = first_value found (codes "bus") in
    let table = first_value found (codes "table") in
    let names = first_value found (codes "names") in
    let file = texts_found found (codes "file") in
    if bytes_eq called (codes "report") then report (rows_found found)
    else if bytes_eq called (codes "summary") then summary (rows_found found)
    else if bytes_eq called (codes "grid") then grid (first_value found (codes "every")) (rows_found found)
    else if bytes_eq called (codes "faults") then
    faults names (first_value found (codes "conversion")) (is_given (first_value found (codes "all")))
    (is_given (first_value found (codes "changes"))) (is_given (first_value found (codes "now"))) (rows_found found)
    else if bytes_eq called (codes "nodes") then
    nodes bus names (first_value found (codes "from")) (is_given (first_value found (codes "seen"))) (first_value found (codes "silent"))
    (is_given (first_value found (codes "head"))) (is_given (first_value found (codes "csv"))) (is_given (first_value found (codes "json")))
    (is_given (first_value found (codes "utc"))) file
    else if bytes_eq called (codes "answer") then
    answer (text_found found (codes "name")) (text_found found (codes "address")) bus file
    else if bytes_eq called (codes "id") then id (text_found found (codes "hex"))
    else if bytes_eq called (codes "name") then name (text_found found (codes "hex"))
    else if bytes_eq called (codes "groups") then groups table
    else if bytes_eq called (codes "survey") then
    survey bus table names (is_given (first_value found (codes "csv"))) (is_given (first_value found (codes "json")))
    (is_given (first_value found (codes "utc"))) file
    else if bytes_eq called (codes "watch") then
    watch bus table names (asked_found found) (first_value found (codes "rows")) (first_value found (codes "width"))
    (is_given (first_value found (codes "colour"))) (is_given (first_value found (codes "utc"))) file
    else cut (text_found found (codes "source")) (text_found found (codes "pgn")) (text_found found (codes "at"))
    (text_found found (codes "bus")) (text_found found (codes "hex"))

-- the values are checked in the order of the words, and the first wrong one is the answer
abbrev pub IsAnswer : CommandWords → Answer → Type 0
IsAnswer s r = AreChecked (form_of s).checks (OrMemory (form_of s).Is) r

-- what is answered: memory is wanted for FILE alone, where it is given, and a task is in range
pub record IsAnswered (s : CommandWords) (r : Answer) : Type 0 where
  pub answer : IsAnswer s r
  pub memory : r ≡ Err Memory → WantsMemory (form_of s).arguments
  pub in_range : IfOk r IsInRange

-- each command of this name that has these texts is answered, and each task is that of one
pub record Tells (called : Text) (found : Found) (r : Answer) : Type 0 where
  pub answer : (s : CommandWords) → HasTexts s (called, rows_of found) → IsAnswer s r
  pub met : IfOk r (λ _. (s : CommandWords) × HasTexts s (called, rows_of found))
