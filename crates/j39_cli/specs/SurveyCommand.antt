-- The command `survey [--bus B] [--table T] [--names FILE] [--csv | --json | --utc] [FILE]..`.
use Rattle.std.specs.Prelude.{None, ◌≡◌, ◌⊎◌, ◌∷◌, ℕ, List, [], Bool, Option, Some, Result, Ok, Err, codes, true}
use Rattle.j39_io.specs.Turn.{Turn}
use Rattle.std.specs.Option.{ForSome}
use Rattle.clap.specs.Words.{App, Text, new_app}
use Rattle.j39_log.specs.Bus.{IsBusName}
use Rattle.j39_names.specs.Naming.{NamingRecord}
use Rattle.j39_listen.specs.declared.format.Format.{Format}
use Rattle.j39_listen.specs.declared.running.RunFault.{RunFault}
use Rattle.j39_survey.specs.SurveyRun.{Surveyed}
use Rattle.j39_cli.specs.Answer.{bus_check}
use Rattle.j39_cli.specs.Form.{Form, Meaning, option}
use Rattle.j39_cli.specs.LogCommand.{fault_text, forms_check, log_arguments, log_limit, with_forms, with_log, written_by}
use Rattle.j39_cli.specs.Refusal.{error_line}
use Rattle.j39_cli.specs.Rules.{with_names, with_table}
use Rattle.j39_cli.specs.Tells.{Tells}
use Rattle.j39_cli.specs.declared.task.LogInput.{LogInput}
use Rattle.j39_cli.specs.declared.task.Task.{Task}
use Rattle.j39_cli.specs.declared.task.Task.TheVariants.{Survey}

abbrev pub survey_app : App
survey_app = with_log (with_forms (with_names (with_table (new_app (codes "survey")))))

abbrev pub IsSurveyTask : Option (List ℕ) → Option (List ℕ) → Option (List ℕ) → Bool → Bool → Bool → List (List ℕ) → Task → Type 0
IsSurveyTask bus table names csv json utc file (Survey input table' names' format) =
    (input.bus ≡ bus) × (table' ≡ table) × (names' ≡ names) × (written_by csv json utc ≡ Some format) × (input.file ≡ file)
IsSurveyTask bus table names csv json utc file t = ⊥

abbrev pub survey_form : Option Text → Option Text → Option Text → Bool → Bool → Bool → List Text → Form
survey_form bus table names csv json utc file = record {
  called = codes "survey";
  arguments = option (codes "bus") bus ∷ option (codes "table") table ∷ option (codes "names") names ∷ log_arguments csv json utc file;
  checks = bus_check bus ∷ forms_check csv json utc ∷ [];
  Is = IsSurveyTask bus table names csv json utc file;
}

-- the end of a survey: nothing is said of one that was written, with status 0, and a fault is told, with status 1
abbrev pub IsSurveyTold : Result (Unit {0}) RunFault → ℕ → Turn → Type 0
IsSurveyTold (Ok none) status err = (status ≡ 0) × (err.new ≡ err.old)
IsSurveyTold (Err fault) status err = (status ≡ 1) × Tells err (error_line (fault_text fault) [])

-- a survey of the log ended so, as `survey` of `j39_survey` may, and its end is told
pub record IsSurvey (form : Format) (bus : Option (List ℕ)) (naming : NamingRecord) (status : ℕ) (log out err : Turn) : Type 0 where
  pub known : (status ≡ 0) ⊎ (status ≡ 1)
  pub result : Result (Unit {0}) RunFault
  pub ran : Surveyed (record { form = form; naming = naming; given = bus }) log_limit result log out
  pub told : IsSurveyTold result status err

abbrev pub survey_meaning : LogInput → Option (List ℕ) → Option (List ℕ) → Format → Meaning
survey_meaning input table names form = record {
  file = input.file;
  table = table;
  names = names;
  head = None;
  InRange = ForSome input.bus IsBusName;
  reads_log = true;
  Performs = IsSurvey form input.bus;
}
