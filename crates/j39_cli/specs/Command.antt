-- What clap is told of the whole command line.
use Rattle.std.specs.Prelude.{◌∷◌, [], true, List, codes, fold}
use Rattle.clap.specs.Simple.{on_top}
use Rattle.clap.specs.Words.{App, new_app, with_subcommand}
use Rattle.j39_cli.specs.AnswerCommand.{answer_app}
use Rattle.j39_cli.specs.CutCommand.{cut_app}
use Rattle.j39_cli.specs.FaultsCommand.{faults_app}
use Rattle.j39_cli.specs.GridCommand.{grid_app}
use Rattle.j39_cli.specs.GroupsCommand.{groups_app}
use Rattle.j39_cli.specs.IdCommand.{id_app}
use Rattle.j39_cli.specs.NameCommand.{name_app}
use Rattle.j39_cli.specs.NodesCommand.{nodes_app}
use Rattle.j39_cli.specs.ReportCommand.{report_app}
use Rattle.j39_cli.specs.SummaryCommand.{summary_app}
use Rattle.j39_cli.specs.SurveyCommand.{survey_app}
use Rattle.j39_cli.specs.WatchCommand.{watch_app}

-- the program with no command, of which it asks for one; it tells its version
abbrev pub bare_app : App
bare_app = on_top (λ s. record s { subcommand_required = true; has_version = true }) (new_app (codes "j1939"))

-- each command in the order of the help
abbrev pub command_apps : List App
command_apps =
    report_app
    ∷ faults_app
    ∷ summary_app
    ∷ grid_app
    ∷ watch_app
    ∷ nodes_app
    ∷ survey_app
    ∷ answer_app
    ∷ groups_app
    ∷ id_app
    ∷ name_app
    ∷ cut_app
    ∷ []

unfoldable pub line_app : App
line_app = fold (λ line command. with_subcommand line command.top) bare_app command_apps
