-- The command `faults [--bus B] [--table T] [--names FILE] [--conversion C] [--spn SPN,..] [--from A,..] [--to A,..] [--pgn PGN,..] [--since S] [--until S]
-- [--all | --changes | --now] [--head] [--csv | --json | --utc] [FILE]..`.
use Rattle.std.specs.Prelude.{◌≡◌, ◌≢◌, ◌⊎◌, ◌∷◌, ◌++◌, [], ℕ, Bool, true, false, List, Option, Some, None, Result, Ok, Err, codes, option_map, unwrap_or}
use Rattle.std.specs.Option.{ForSome}
use Rattle.j39_io.specs.Turn.{Turn}
use Rattle.j39_log.specs.Bus.{IsBusName}
use Rattle.clap.specs.Words.{App, Text, new_app, with_rule}
use Rattle.j39_listen.specs.Filter.{FilterRecord}
use Rattle.j39_listen.specs.Output.{Making}
use Rattle.j39_listen.specs.declared.running.RunFault.{RunFault}
use Rattle.j39_fault_reports.specs.Broken.{ToldFaults}
use Rattle.j39_fault_reports.specs.FaultAsking.{AsksForFaults}
use Rattle.j39_fault_reports.specs.FaultRun.{MakesFaults}
use Rattle.j39_fault_reports.specs.Faults.{manner_in}
use Rattle.j39_fault_reports.specs.FaultsNowRun.{AsksForFaultsNow, MakesFaultsNow}
use Rattle.j39_names.specs.Naming.{NamingRecord}
use Rattle.j39_listen.specs.Asking.{Wanting}
use Rattle.j39_faults.specs.declared.conversion.Conversion.{Conversion}
use Rattle.j39_fault_reports.specs.declared.fault_news.run.FaultCounts.{FaultCounts}
use Rattle.j39_fault_reports.specs.declared.fault_news.telling.Telling.TheVariants.{News, All, Changes}
use Rattle.j39_cli.specs.Asked.{asked_arguments, asked_checks, filter_in, with_asked}
use Rattle.j39_cli.specs.declared.asked.Asked.{Asked}
use Rattle.j39_cli.specs.Conversions.{IsConversionList, conversions_in}
use Rattle.j39_cli.specs.Answer.{Check, bus_check, check, value_check}
use Rattle.j39_cli.specs.RowOptions.{AreOptions, RowTexts, headed_arguments}
use Rattle.j39_cli.specs.declared.options.FaultOptions.{FaultOptions}
use Rattle.j39_cli.specs.declared.task.Argument.TheVariants as argument
use Rattle.j39_cli.specs.Form.{Form, Meaning, flag, option}
use Rattle.j39_cli.specs.Heads.{head_by}
use Rattle.j39_cli.specs.LogCommand.{absent_text, fault_text, forms_check, log_limit, with_forms, with_log}
use Rattle.j39_cli.specs.Counted.{fault_counts_text}
use Rattle.j39_cli.specs.Refusal.{error_line}
use Rattle.j39_cli.specs.Rules.{flag_rule, option_rule, with_head, with_names, with_table}
use Rattle.j39_cli.specs.Tells.{Tells}
use Rattle.j39_listen.specs.declared.format.Format.{Format}
use Rattle.j39_cli.specs.declared.task.FaultsTold.{FaultsTold}
use Rattle.j39_cli.specs.declared.task.FaultsTold.TheVariants.{InMessages, Now}
use Rattle.j39_cli.specs.declared.task.Task.{Task}
use Rattle.j39_cli.specs.declared.task.Task.TheVariants.{Faults}

abbrev pub faults_app : App
faults_app =
    with_log (with_forms (with_head (with_rule (with_rule (with_rule (with_asked (with_rule (with_names (with_table (new_app (codes "faults"))))
    (option_rule (codes "conversion") false))) (flag_rule (codes "all"))) (flag_rule (codes "changes"))) (flag_rule (codes "now")))))

-- no two of --all, --changes and --now go together
abbrev pub told_by : Bool → Bool → Bool → Option FaultsTold
told_by false false false = Some (InMessages News)
told_by true false false = Some (InMessages All)
told_by false true false = Some (InMessages Changes)
told_by false false true = Some Now
told_by true true now = None
told_by true false true = None
told_by false true true = None

abbrev pub told_check : Bool → Bool → Bool → Check
told_check all changes now = check (told_by all changes now ≢ None) argument.Together

abbrev pub IsFaultsTask : Option Text → Option Text → Bool → Bool → Bool → RowTexts → Task → Type 0
IsFaultsTask names conversion all changes now texts (Faults o) =
    AreOptions texts o.rows × (o.names ≡ names) × (o.conversions ≡ option_map conversions_in conversion) × (told_by all changes now ≡ Some o.told)
IsFaultsTask names conversion all changes now texts t = ⊥

abbrev pub faults_form : Option Text → Option Text → Bool → Bool → Bool → RowTexts → Form
faults_form names conversion all changes now texts = record {
  called = codes "faults";
  arguments = option (codes "bus") texts.bus ∷ option (codes "table") texts.table ∷ option (codes "names") names ∷ option (codes "conversion") conversion
      ∷ asked_arguments texts.asked ++ flag (codes "all") all ∷ flag (codes "changes") changes ∷ flag (codes "now") now
      ∷ headed_arguments texts;
  checks = bus_check texts.bus ∷ value_check IsConversionList argument.Conversion conversion
      ∷ asked_checks texts.asked ++ told_check all changes now ∷ forms_check texts.csv texts.json texts.utc ∷ [];
  Is = IsFaultsTask names conversion all changes now texts;
}

-- no version is known where none is given
abbrev pub versions_in : Option (List Conversion) → List Conversion
versions_in conversions = unwrap_or conversions []

-- what a run makes by names: the faults that are asked for
abbrev pub makes_told : FaultsTold → List Conversion → Asked → Format → NamingRecord → Making
makes_told (InMessages telling) conversions asked format naming =
    MakesFaults format (manner_in format naming asked.spns) (record { telling = telling; conversions = conversions; asked = filter_in asked })
makes_told Now conversions asked format naming =
    MakesFaultsNow format (manner_in format naming asked.spns) conversions (filter_in asked)

abbrev pub makes_by : FaultOptions → NamingRecord → Making
makes_by o = makes_told o.told (versions_in o.conversions) o.rows.asked o.rows.format

abbrev pub asks_told : FaultsTold → FilterRecord → Wanting
asks_told (InMessages telling) = AsksForFaults telling
asks_told Now = AsksForFaultsNow

abbrev pub asks_by : FaultOptions → Wanting
asks_by o = asks_told o.told (filter_in o.rows.asked)

-- the end of a run is told: its counts, with the messages that were broken, with status 0, or its fault, with status 1
abbrev pub IsFaultsTold : Option (List ℕ) → Result FaultCounts RunFault → ℕ → Turn → Type 0
IsFaultsTold bus (Ok told) status err = (status ≡ 0) × Tells err (absent_text bus told.counts.frames ++ fault_counts_text told)
IsFaultsTold bus (Err fault) status err = (status ≡ 1) × Tells err (error_line (fault_text fault) [])

-- a run over the log ended so, as a run that makes this of faults may, and its end is told
pub record IsFaultsRun (makes : Making) (asks : Wanting) (bus : Option (List ℕ)) (status : ℕ) (log out err : Turn) : Type 0 where
  pub known : (status ≡ 0) ⊎ (status ≡ 1)
  pub result : Result FaultCounts RunFault
  pub ran : ToldFaults makes asks bus log_limit result log out
  pub told : IsFaultsTold bus result status err

abbrev pub IsFaultsBy : FaultOptions → NamingRecord → ℕ → Turn → Turn → Turn → Type 0
IsFaultsBy o naming = IsFaultsRun (makes_by o naming) (asks_by o) o.rows.input.bus

-- what its columns in lines are called
abbrev pub fault_columns : FaultsTold → List ℕ
fault_columns (InMessages News) = codes "stamp address name state spn fmi count parameter: meaning"
fault_columns (InMessages All) = codes "stamp address name state spn fmi count parameter: meaning"
fault_columns (InMessages Changes) = codes "stamp address name change spn fmi count parameter: meaning"
fault_columns Now = codes "first_stamp address name last_stamp messages state spn fmi count parameter: meaning"

abbrev pub faults_meaning : FaultOptions → Meaning
faults_meaning o = record {
  file = o.rows.input.file;
  table = o.rows.table;
  names = o.names;
  head = head_by o.rows.has_head o.rows.format (fault_columns o.told);
  InRange = ForSome o.rows.input.bus IsBusName;
  reads_log = true;
  Performs = IsFaultsBy o;
}
