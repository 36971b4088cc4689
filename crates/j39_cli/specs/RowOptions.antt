-- The commands that read a log by a table and write rows: `[--bus B] [--table T] [--spn SPN,..] [--from A,..] [--to A,..]
-- [--pgn PGN,..] [--since S] [--until S] [--head] [--csv | --json | --utc] [FILE]..`.
use Rattle.std.specs.Prelude.{None, ◌≡◌, ◌∷◌, ◌++◌, [], ℕ, Bool, List, Option, Some, codes, true}
use Rattle.std.specs.Option.{ForSome}
use Rattle.clap.specs.Words.{App, Text, first_value, new_app}
use Rattle.clap.specs.declared.parser.matches.Found.{Found}
use Rattle.j39_log.specs.Bus.{IsBusName}
use Rattle.j39_cli.specs.Answer.{Check, bus_check}
use Rattle.j39_cli.specs.Asked.{AskedTexts, IsAsked, asked_arguments, asked_checks, asked_found, with_asked}
use Rattle.j39_cli.specs.Form.{ArgumentText, Form, Meaning, flag, option, texts_found}
use Rattle.j39_cli.specs.Heads.{head_by}
use Rattle.j39_cli.specs.LogCommand.{forms_check, log_arguments, with_forms, with_log, written_by}
use Rattle.j39_cli.specs.RowsRun.{Running}
use Rattle.j39_cli.specs.Rules.{is_given, with_head, with_table}
use Rattle.j39_cli.specs.declared.options.RowOptions.{RowOptions}
use Rattle.j39_cli.specs.declared.task.Task.{Task}

-- the texts of their values, where they are given
pub record RowTexts : Type 0 where
  pub bus : Option Text
  pub table : Option Text
  pub asked : AskedTexts
  pub head : Bool
  pub csv : Bool
  pub json : Bool
  pub utc : Bool
  pub file : List Text

abbrev pub rows_found : Found → RowTexts
rows_found found = record {
  bus = first_value found (codes "bus");
  table = first_value found (codes "table");
  asked = asked_found found;
  head = is_given (first_value found (codes "head"));
  csv = is_given (first_value found (codes "csv"));
  json = is_given (first_value found (codes "json"));
  utc = is_given (first_value found (codes "utc"));
  file = texts_found found (codes "file");
}

-- what is told is what these texts say
pub record AreOptions (texts : RowTexts) (o : RowOptions) : Type 0 where
  pub bus_is : o.input.bus ≡ texts.bus
  pub table_is : o.table ≡ texts.table
  pub asked_is : IsAsked texts.asked o.asked
  pub head_is : o.has_head ≡ texts.head
  pub format_is : written_by texts.csv texts.json texts.utc ≡ Some o.format
  pub files_are : o.input.file ≡ texts.file

-- ---- such a command, with no values but these

abbrev pub row_app : Text → App
row_app called = with_log (with_forms (with_head (with_asked (with_table (new_app called)))))

abbrev pub row_checks : RowTexts → List Check
row_checks texts = bus_check texts.bus ∷ asked_checks texts.asked ++ forms_check texts.csv texts.json texts.utc ∷ []

-- the last arguments of such a command
abbrev pub headed_arguments : RowTexts → List ArgumentText
headed_arguments texts = flag (codes "head") texts.head ∷ log_arguments texts.csv texts.json texts.utc texts.file

abbrev pub row_arguments : RowTexts → List ArgumentText
row_arguments texts =
    option (codes "bus") texts.bus ∷ option (codes "table") texts.table ∷ asked_arguments texts.asked
    ++ headed_arguments texts

abbrev pub row_form : Text → RowTexts → (Task → Type 0) → Form
row_form called texts Is = record {
  called = called;
  arguments = row_arguments texts;
  checks = row_checks texts;
  Is = Is;
}

-- the task of such options that runs so, whose columns in lines are called so
abbrev pub row_meaning : RowOptions → List ℕ → Running → Meaning
row_meaning o columns runs = record {
  file = o.input.file;
  table = o.table;
  names = None;
  head = head_by o.has_head o.format columns;
  InRange = ForSome o.input.bus IsBusName;
  reads_log = true;
  Performs = λ naming. runs naming.rows;
}
