-- What the commands that read a log have in common.
use Rattle.std.specs.Prelude.{◌≡◌, ◌≢◌, ◌⊎◌, ℕ, zero, suc, Bool, true, false, ◌++◌, ◌∷◌, List, [], Option, None, Some, Result, Ok, Err, codes, decimal}
use Rattle.std.specs.Str.{bytes_eq}
use Rattle.std.specs.Option.{ForSome}
use Rattle.j39_io.specs.Turn.{Turn}
use Rattle.clap.specs.Words.{App, Text, with_rule}
use Rattle.j39_log.specs.Bus.{IsBusName}
use Rattle.j39_names.specs.Naming.{NamingRecord}
use Rattle.j39_listen.specs.Asking.{Wanting}
use Rattle.j39_listen.specs.Output.{Making}
use Rattle.j39_listen.specs.Ran.{Ran}
use Rattle.j39_listen.specs.Fault.{fault_words}
use Rattle.j39_listen.specs.declared.counts.Counts.{Counts}
use Rattle.j39_listen.specs.declared.running.RunFault.{RunFault}
use Rattle.j39_listen.specs.declared.running.RunFault.TheVariants.{Memory, Read, Write, TooLong}
use Rattle.j39_cli.specs.Answer.{Check, check}
use Rattle.j39_cli.specs.Form.{ArgumentText, Meaning, flag, values}
use Rattle.j39_cli.specs.Rules.{flag_rule, option_rule, values_rule}
use Rattle.j39_cli.specs.Counted.{counts_text}
use Rattle.j39_cli.specs.Refusal.{error_line}
use Rattle.j39_cli.specs.Tells.{Tells}
use Rattle.j39_listen.specs.declared.format.Clock.TheVariants.{Seconds, Utc}
use Rattle.j39_listen.specs.declared.format.Format.{Format}
use Rattle.j39_listen.specs.declared.format.Format.TheVariants.{Line, Object, Record}
use Rattle.j39_cli.specs.declared.task.Argument.TheVariants as argument
use Rattle.j39_cli.specs.declared.task.LogInput.{LogInput}

-- a command that reads a log takes `--bus`, and as many FILEs as there are
abbrev pub with_log : App → App
with_log command = with_rule (with_rule command (option_rule (codes "bus") false)) (values_rule (codes "file"))

-- a command that writes in each form takes `--csv`, `--json` and `--utc`
abbrev pub with_forms : App → App
with_forms command =
    with_rule (with_rule (with_rule command (flag_rule (codes "csv"))) (flag_rule (codes "json"))) (flag_rule (codes "utc"))

-- how what the log has is written: `--csv` asks for comma-separated values, `--json` for objects, `--utc` for lines with their
-- moments in UTC; no two go together
abbrev pub written_by : Bool → Bool → Bool → Option Format
written_by false false false = Some (Line Seconds)
written_by true false false = Some Record
written_by false true false = Some Object
written_by false false true = Some (Line Utc)
written_by true true utc = None
written_by true false true = None
written_by false true true = None

abbrev pub forms_check : Bool → Bool → Bool → Check
forms_check csv json utc = check (written_by csv json utc ≢ None) argument.Forms

-- the last arguments of such a command
abbrev pub log_arguments : Bool → Bool → Bool → List Text → List ArgumentText
log_arguments csv json utc file =
    flag (codes "csv") csv ∷ flag (codes "json") json ∷ flag (codes "utc") utc ∷ values (codes "file") file ∷ []

-- FILE may stand for standard input
abbrev pub is_input : List ℕ → Bool
is_input file = bytes_eq file (codes "-")

-- what is read, one behind the other: where no FILE is given, standard input
abbrev pub inputs_of : List (List ℕ) → List (List ℕ)
inputs_of [] = codes "-" ∷ []
inputs_of (file ∷ files) = file ∷ files

-- the most bytes of a log that the program reads, 16 GiB
abbrev pub log_limit : ℕ
log_limit = 17179869184

-- what is said of a fault
abbrev pub fault_text : RunFault → List ℕ
fault_text Memory = fault_words Memory
fault_text Read = fault_words Read
fault_text Write = fault_words Write
fault_text TooLong = codes "input longer than " ++ decimal log_limit ++ codes " bytes"

-- a bus that is asked for, and of which no frame is
abbrev pub absent_text : Option (List ℕ) → ℕ → List ℕ
absent_text None frames = []
absent_text (Some bus) zero = error_line (codes "no frame is of ") bus
absent_text (Some bus) (suc n) = []

-- the end of a run is told: its counts, behind such a bus, with status 0, or its fault, with status 1
abbrev pub IsTold : Option (List ℕ) → Result Counts RunFault → ℕ → Turn → Type 0
IsTold bus (Ok counts) status err = (status ≡ 0) × Tells err (absent_text bus counts.frames ++ counts_text counts)
IsTold bus (Err fault) status err = (status ≡ 1) × Tells err (error_line (fault_text fault) [])

-- a run over the log ended so, as a run that makes and asks this may, and its end is told
pub record IsRun (asks : Wanting) (makes : Making) (bus : Option (List ℕ)) (status : ℕ) (log out err : Turn) : Type 0 where
  pub known : (status ≡ 0) ⊎ (status ≡ 1)
  pub result : Result Counts RunFault
  pub ran : Ran makes asks bus log_limit result log out
  pub told : IsTold bus result status err

-- the task of a run: what it asks and makes may go by names and their table of parameters
abbrev pub runs : (NamingRecord → Wanting) → (NamingRecord → Making) → LogInput → Meaning
runs asks makes input = record {
  file = input.file;
  table = None;
  names = None;
  head = None;
  InRange = ForSome input.bus IsBusName;
  reads_log = true;
  Performs = λ naming status log out err. IsRun (asks naming) (makes naming) input.bus status log out err;
}
