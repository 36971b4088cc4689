-- What is proved of each command.
use Rattle.j39_cli.proofs.Common.{◌≡◌, ◌∷◌, [], Some, codes, refl, Rule, Shape, Text, filled, with_index, arg_by_id}
use Rattle.clap.proofs.OnLiterals.{clap_on_literals}
use Rattle.j39_cli.specs.Command.{line_app}
use Rattle.j39_cli.specs.CommandWords.{CommandWords, HasValues, answer, cut, faults, form_of, grid, groups, id, name, nodes, report, summary, survey, watch}
use Rattle.j39_cli.specs.AnswerCommand.{answer_app}
use Rattle.j39_cli.specs.CutCommand.{cut_app}
use Rattle.j39_cli.specs.FaultsCommand.{faults_app}
use Rattle.j39_cli.specs.GridCommand.{grid_app}
use Rattle.j39_cli.specs.GroupsCommand.{groups_app}
use Rattle.j39_cli.specs.IdCommand.{id_app}
use Rattle.j39_cli.specs.NameCommand.{name_app}
use Rattle.j39_cli.specs.NodesCommand.{nodes_app}
use Rattle.j39_cli.specs.ReportCommand.{report_app}
use Rattle.j39_cli.specs.SummaryCommand.{summary_app}
use Rattle.j39_cli.specs.SurveyCommand.{survey_app}
use Rattle.j39_cli.specs.WatchCommand.{watch_app}
use Rattle.j39_cli.specs.Form.{option, value}
use Rattle.j39_cli.specs.Rules.{values_rule}
use Rattle.j39_cli.proofs.ArgumentLemmas.{before_each, parsed, parsed_each}
use Rattle.j39_cli.proofs.ChoiceLemmas.{parsed_choices}
use Rattle.j39_cli.proofs.EachLemmas.{TakesEach}
use Rattle.j39_cli.proofs.PartLemmas.{parts_pass}
use Rattle.j39_cli.proofs.TakenLemmas.{IsRead}

-- FILE, as clap builds it
abbrev file_rule : Rule
file_rule = with_index 1 (filled (values_rule (codes "file")))

takes_file : {s : Shape} → arg_by_id s.rules (codes "file") ≡ Some file_rule → TakesEach s file_rule
takes_file known = record {
  appends = refl;
  is_multiple = refl;
  is_single = refl;
  is_met = refl;
  known = known;
  named = refl;
  passes = λ text rows. refl;
}

pub is_read : (program : Text) (s : CommandWords) → HasValues s → IsRead program s
unfolding clap_on_literals line_app parts_pass
is_read program (report texts) =
    parsed_choices program report_app (report texts) (before_each (form_of (report texts)).arguments) file_rule texts.file (takes_file refl)
    (record { choices = tt; known = refl; apart = refl; defaults = refl; none_by_default = refl; first = refl; valid = λ rows. refl })
    (record { step = refl; passes = refl; found = refl; checks = refl }) refl refl
is_read program (summary texts) =
    parsed_choices program summary_app (summary texts) (before_each (form_of (summary texts)).arguments) file_rule texts.file (takes_file refl)
    (record { choices = tt; known = refl; apart = refl; defaults = refl; none_by_default = refl; first = refl; valid = λ rows. refl })
    (record { step = refl; passes = refl; found = refl; checks = refl }) refl refl
is_read program (grid every texts) =
    parsed_choices program grid_app (grid every texts) (before_each (form_of (grid every texts)).arguments) file_rule texts.file (takes_file refl)
    (record { choices = tt; known = refl; apart = refl; defaults = refl; none_by_default = refl; first = refl; valid = λ rows. refl })
    (record { step = refl; passes = refl; found = refl; checks = refl }) refl refl
is_read program (faults names conversion all changes now texts) =
    parsed_choices program faults_app (faults names conversion all changes now texts) (before_each (form_of (faults names conversion all changes now texts)).arguments) file_rule texts.file (takes_file refl)
    (record { choices = tt; known = refl; apart = refl; defaults = refl; none_by_default = refl; first = refl; valid = λ rows. refl })
    (record { step = refl; passes = refl; found = refl; checks = refl }) refl refl
is_read program (nodes bus names from seen silent head csv json utc file) =
    parsed_choices program nodes_app (nodes bus names from seen silent head csv json utc file) (before_each (form_of (nodes bus names from seen silent head csv json utc file)).arguments) file_rule file (takes_file refl)
    (record { choices = tt; known = refl; apart = refl; defaults = refl; none_by_default = refl; first = refl; valid = λ rows. refl })
    (record { step = refl; passes = refl; found = refl; checks = refl }) refl refl
is_read program (answer node address bus file) = parsed_each program answer_app (answer node address bus file)
    (option (codes "name") (Some node) ∷ option (codes "address") (Some address) ∷ []) (option (codes "bus") bus ∷ []) file_rule file (takes_file refl)
    refl refl (λ text more. refl) (record { step = refl; passes = refl; found = refl; checks = refl }) refl refl
is_read program (id hex) = parsed program id_app (id hex) (value (codes "hex") (Some hex) ∷ []) [] refl
    (record { step = refl; passes = refl; found = refl; checks = refl }) refl refl
is_read program (name hex) = parsed program name_app (name hex) (value (codes "hex") (Some hex) ∷ []) [] refl
    (record { step = refl; passes = refl; found = refl; checks = refl }) refl refl
is_read program (cut source pgn moment bus hex) = parsed program cut_app (cut source pgn moment bus hex)
    (option (codes "source") (Some source) ∷ option (codes "pgn") (Some pgn) ∷ option (codes "at") (Some moment)
    ∷ option (codes "bus") (Some bus) ∷ value (codes "hex") (Some hex) ∷ []) [] refl
    (record { step = refl; passes = refl; found = refl; checks = refl }) refl refl
is_read program (groups table) = parsed program groups_app (groups table) [] (form_of (groups table)).arguments refl
    (record { step = refl; passes = refl; found = refl; checks = refl }) refl refl
is_read program (survey bus table names csv json utc file) =
    parsed_choices program survey_app (survey bus table names csv json utc file) (before_each (form_of (survey bus table names csv json utc file)).arguments) file_rule file (takes_file refl)
    (record { choices = tt; known = refl; apart = refl; defaults = refl; none_by_default = refl; first = refl; valid = λ rows. refl })
    (record { step = refl; passes = refl; found = refl; checks = refl }) refl refl
is_read program (watch bus table names asked rows width colour utc file) =
    parsed_choices program watch_app (watch bus table names asked rows width colour utc file) (before_each (form_of (watch bus table names asked rows width colour utc file)).arguments) file_rule file (takes_file refl)
    (record { choices = tt; known = refl; apart = refl; defaults = refl; none_by_default = refl; first = refl; valid = λ rows. refl })
    (record { step = refl; passes = refl; found = refl; checks = refl }) refl refl
