-- The command `grid [--every S] [--bus B] [--table T] --spn SPN,.. [--from A,..] [--to A,..] [--pgn PGN,..] [--since S] [--until S]
-- [--head] [--csv | --json | --utc] [FILE]..`.
use Rattle.std.specs.Prelude.{◌≡◌, ◌≢◌, ◌∷◌, ◌++◌, [], ℕ, false, List, None, Option, codes, decimal, option_map, unwrap_or}
use Rattle.std.specs.List.{flat_map}
use Rattle.clap.specs.Words.{App, Text, new_app, with_rule}
use Rattle.j39_groups.specs.Row.{RowRecord}
use Rattle.j39_listen.specs.Asking.{AsksForBoxes}
use Rattle.j39_grid.specs.GridRun.{MakesGrid, Subject}
use Rattle.j39_cli.specs.Answer.{Check, check, value_check}
use Rattle.j39_cli.specs.Asked.{filter_in, with_asked}
use Rattle.j39_cli.specs.Every.{IsSpan}
use Rattle.j39_cli.specs.Form.{Form, Meaning, option}
use Rattle.j39_cli.specs.LogCommand.{IsRun, with_forms, with_log}
use Rattle.j39_cli.specs.RowOptions.{AreOptions, RowTexts, row_arguments, row_checks, row_meaning}
use Rattle.j39_cli.specs.RowsRun.{IsRunBy, Running}
use Rattle.j39_cli.specs.Rules.{option_rule, with_head, with_table}
use Rattle.j39_cli.specs.Seconds.{AreSeconds, seconds_value}
use Rattle.j39_cli.specs.declared.grid.GridOptions.{GridOptions}
use Rattle.j39_cli.specs.declared.task.Argument.TheVariants as argument
use Rattle.j39_cli.specs.declared.task.Task.{Task}
use Rattle.j39_cli.specs.declared.task.Task.TheVariants.{Grid}

abbrev pub grid_app : App
grid_app = with_log (with_forms (with_head (with_asked (with_table (with_rule (new_app (codes "grid")) (option_rule (codes "every") false))))))

-- ---- its values

-- so many seconds
abbrev pub IsEvery : List ℕ → Type 0
IsEvery text = AreSeconds text × IsSpan (seconds_value text)

-- a second, where nothing else is said
abbrev pub every_in : Option (List ℕ) → ℕ
every_in text = unwrap_or (option_map seconds_value text) 1000000

abbrev pub every_check : Option Text → Check
every_check every = value_check IsEvery argument.Every every

-- the parameters of the columns have to be given
abbrev pub columns_check : Option Text → Check
columns_check spn = check (spn ≢ None) argument.Spn

-- ---- the command

abbrev pub IsGridTask : Option Text → RowTexts → Task → Type 0
IsGridTask every texts (Grid o) = AreOptions texts o.rows × (o.every ≡ every_in every)
IsGridTask every texts t = ⊥

abbrev pub grid_form : Option Text → RowTexts → Form
grid_form every texts = record {
  called = codes "grid";
  arguments = option (codes "every") every ∷ row_arguments texts;
  checks = every_check every ∷ columns_check texts.asked.spn ∷ row_checks texts;
  Is = IsGridTask every texts;
}

-- the grid of what is asked for of the report by a table
abbrev pub subject_in : GridOptions → List RowRecord → Subject
subject_in o rows = record {
  asked = record { form = o.rows.format; every = o.every; spns = unwrap_or o.rows.asked.spns [] };
  which = filter_in o.rows.asked;
  rows = rows;
}

abbrev pub IsGridRun : GridOptions → Running
IsGridRun o = IsRunBy (λ kept. IsRun AsksForBoxes (MakesGrid (subject_in o kept)) o.rows.input.bus) o.rows.asked.spns

-- what its columns in lines are called: the parameters by their SPNs
abbrev pub grid_columns : List ℕ → List ℕ
grid_columns spns = codes "stamp" ++ flat_map (λ spn. codes " " ++ decimal spn) spns

abbrev pub grid_meaning : GridOptions → Meaning
grid_meaning o = row_meaning o.rows (grid_columns (unwrap_or o.rows.asked.spns [])) (IsGridRun o)
