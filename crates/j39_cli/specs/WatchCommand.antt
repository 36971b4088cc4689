-- The command `watch [--bus B] [--table T] [--names FILE] [--spn SPN,..] [--from A,..] [--to A,..] [--pgn PGN,..] [--since S]
-- [--until S] [--rows N] [--width N] [--colour] [--utc] [FILE]..`.
use Rattle.std.specs.Prelude.{None, ◌≡◌, ◌≤◌, ◌-◌, ◌∷◌, ◌++◌, [], ℕ, Bool, false, true, List, Option, codes, if◌then◌else◌, option_map, unwrap_or}
use Rattle.std.specs.Option.{ForSome}
use Rattle.std.specs.Str.Parse.{digits_value}
use Rattle.clap.specs.Words.{App, Text, new_app, with_rule}
use Rattle.j39_listen.specs.declared.format.Clock.TheVariants.{Seconds, Utc}
use Rattle.j39_log.specs.Bus.{IsBusName}
use Rattle.j39_names.specs.Naming.{NamingRecord}
use Rattle.j39_watch.specs.NotesSoFar.{size_of}
use Rattle.j39_watch.specs.Watch.{AsksForWatch, MakesWatch, Size}
use Rattle.j39_cli.specs.Answer.{bus_check, value_check}
use Rattle.j39_cli.specs.Asked.{AskedTexts, IsAsked, asked_arguments, asked_checks, filter_in, with_asked}
use Rattle.j39_cli.specs.Form.{Form, Meaning, flag, option, values}
use Rattle.j39_cli.specs.LogCommand.{IsRun, with_log}
use Rattle.j39_cli.specs.Numbers.{IsNumberIn}
use Rattle.j39_cli.specs.RowsRun.{IsRunBy, Running}
use Rattle.j39_cli.specs.Rules.{flag_rule, option_rule, with_names, with_table}
use Rattle.j39_cli.specs.declared.task.Argument.TheVariants as argument
use Rattle.j39_cli.specs.declared.task.Task.{Task}
use Rattle.j39_cli.specs.declared.task.Task.TheVariants.{Watch}
use Rattle.j39_cli.specs.declared.watch.WatchOptions.{WatchOptions}

abbrev pub watch_app : App
watch_app = with_log (with_rule (with_rule (with_rule (with_rule (with_asked (with_names (with_table (new_app (codes "watch")))))
    (option_rule (codes "rows") false)) (option_rule (codes "width") false)) (flag_rule (codes "colour"))) (flag_rule (codes "utc")))

-- ---- its values

-- how many rows the terminal has, and how many columns
abbrev pub IsRows : List ℕ → Type 0
IsRows = IsNumberIn 2 1000

abbrev pub IsWidth : List ℕ → Type 0
IsWidth = IsNumberIn 20 512

abbrev pub number_or : ℕ → Option (List ℕ) → ℕ
number_or otherwise text = unwrap_or (option_map (digits_value 10) text) otherwise

-- of 24 rows and 80 columns, where nothing else is said. Each line ends with a newline: the last row is left to the cursor, so
-- that nothing scrolls.
abbrev pub screen_in : Option (List ℕ) → Option (List ℕ) → Bool → Bool → Size
screen_in rows width colour utc = record {
  rows = number_or 24 rows - 1;
  width = number_or 80 width;
  is_coloured = colour;
  clock = if utc then Utc else Seconds;
}

abbrev pub IsScreenSize : Size → Type 0
IsScreenSize size = (1 ≤ size.rows) × (size.rows ≤ 999) × (20 ≤ size.width) × (size.width ≤ 512)

-- ---- the command

abbrev pub IsWatchTask : Option Text → Option Text → Option Text → AskedTexts → Option Text → Option Text → Bool → Bool → List Text → Task → Type 0
IsWatchTask bus table names asked rows width colour utc file (Watch o) =
    (o.input.bus ≡ bus) × (o.table ≡ table) × (o.names ≡ names) × IsAsked asked o.asked
    × (size_of o.size ≡ screen_in rows width colour utc) × (o.input.file ≡ file)
IsWatchTask bus table names asked rows width colour utc file t = ⊥

abbrev pub watch_form : Option Text → Option Text → Option Text → AskedTexts → Option Text → Option Text → Bool → Bool → List Text → Form
watch_form bus table names asked rows width colour utc file = record {
  called = codes "watch";
  arguments = option (codes "bus") bus ∷ option (codes "table") table ∷ option (codes "names") names ∷ asked_arguments asked
      ++ option (codes "rows") rows ∷ option (codes "width") width ∷ flag (codes "colour") colour ∷ flag (codes "utc") utc
      ∷ values (codes "file") file ∷ [];
  checks = bus_check bus ∷ asked_checks asked ++ value_check IsRows argument.Rows rows ∷ value_check IsWidth argument.Width width ∷ [];
  Is = IsWatchTask bus table names asked rows width colour utc file;
}

-- the screens of what is asked for, by these names
abbrev pub IsWatchRun : WatchOptions → NamingRecord → Running
IsWatchRun o naming = IsRunBy (λ kept. IsRun (AsksForWatch kept (filter_in o.asked))
    (MakesWatch naming kept (filter_in o.asked) (size_of o.size)) o.input.bus) o.asked.spns

abbrev pub watch_meaning : WatchOptions → Meaning
watch_meaning o = record {
  file = o.input.file;
  table = o.table;
  names = o.names;
  head = None;
  InRange = ForSome o.input.bus IsBusName × IsScreenSize (size_of o.size);
  reads_log = true;
  Performs = λ naming. IsWatchRun o naming naming.rows;
}
