-- The command `nodes [--bus B] [--names FILE] [--from A,..] [--seen] [--silent S] [--head] [--csv | --json | --utc] [FILE]..`.
use Rattle.std.specs.Prelude.{◌≡◌, ◌∷◌, [], ℕ, Bool, false, true, List, None, Option, Some, codes, option_map}
use Rattle.clap.specs.Words.{App, Text, new_app, with_rule}
use Rattle.j39_listen.specs.Asking.{AsksNowhere}
use Rattle.j39_listen.specs.Headed.{begins_flushed}
use Rattle.j39_survey.specs.Nodes.{MakesNodesOf}
use Rattle.j39_listen.specs.Output.{Making}
use Rattle.j39_survey.specs.SeenNodes.{MakesSeenNodes, long_silence}
use Rattle.j39_cli.specs.Answer.{bus_check, value_check}
use Rattle.j39_cli.specs.Asked.{IsSenderList, senders_in}
use Rattle.j39_cli.specs.Form.{Form, Meaning, flag, option}
use Rattle.j39_cli.specs.Heads.{head_by}
use Rattle.j39_cli.specs.LogCommand.{forms_check, log_arguments, runs, with_forms, with_log, written_by}
use Rattle.j39_cli.specs.Rules.{flag_rule, option_rule, with_head, with_names}
use Rattle.j39_cli.specs.Seconds.{AreSeconds, seconds_value}
use Rattle.j39_listen.specs.declared.format.Format.{Format}
use Rattle.j39_listen.specs.declared.filter.Sender.{Sender}
use Rattle.j39_names.specs.declared.naming.Named.{Named}
use Rattle.j39_cli.specs.declared.task.Argument.TheVariants as argument
use Rattle.j39_cli.specs.declared.task.LogInput.{LogInput}
use Rattle.j39_cli.specs.declared.task.NodesTold.{NodesTold}
use Rattle.j39_cli.specs.declared.task.NodesTold.TheVariants.{Held, Seen}
use Rattle.j39_listen.specs.declared.format.Clock.TheVariants.{Seconds}
use Rattle.j39_listen.specs.declared.format.Format.TheVariants.{Line, Object, Record}
use Rattle.j39_cli.specs.declared.task.Task.{Task}
use Rattle.j39_cli.specs.declared.task.Task.TheVariants.{Nodes}

abbrev pub nodes_app : App
nodes_app = with_log (with_forms (with_head (with_rule (with_rule (with_rule (with_names (new_app (codes "nodes"))) (option_rule (codes "from") false))
    (flag_rule (codes "seen"))) (option_rule (codes "silent") false))))

-- who holds which address alone; who was seen there too where `--seen` or `--silent` asks for it, and in records and objects
abbrev pub told_by : Option ℕ → Bool → Format → NodesTold
told_by (Some silence) seen format = Seen format silence
told_by None true format = Seen format long_silence
told_by None false (Line clock) = Held
told_by None false Record = Seen Record long_silence
told_by None false Object = Seen Object long_silence

abbrev pub IsNodesTask : Option (List ℕ) → Option (List ℕ) → Option (List ℕ) → Bool → Option (List ℕ) → Bool → Bool → Bool → Bool → List (List ℕ) → Task → Type 0
IsNodesTask bus names from seen silent head csv json utc file (Nodes input names' senders told has_head) =
    (input.bus ≡ bus) × (names' ≡ names) × (senders ≡ option_map senders_in from)
    × (option_map (told_by (option_map seconds_value silent) seen) (written_by csv json utc) ≡ Some told)
    × (has_head ≡ head) × (input.file ≡ file)
IsNodesTask bus names from seen silent head csv json utc file t = ⊥

abbrev pub nodes_form : Option Text → Option Text → Option Text → Bool → Option Text → Bool → Bool → Bool → Bool → List Text → Form
nodes_form bus names from seen silent head csv json utc file = record {
  called = codes "nodes";
  arguments = option (codes "bus") bus ∷ option (codes "names") names ∷ option (codes "from") from ∷ flag (codes "seen") seen ∷ option (codes "silent") silent
      ∷ flag (codes "head") head ∷ log_arguments csv json utc file;
  checks = bus_check bus ∷ value_check IsSenderList argument.From from ∷ value_check AreSeconds argument.Silent silent
      ∷ forms_check csv json utc ∷ [];
  Is = IsNodesTask bus names from seen silent head csv json utc file;
}

-- of who is asked for, with a NAME or at an address, by names of one's own
abbrev pub makes_told : List Named → NodesTold → Option (List Sender) → Making
makes_told own Held from = MakesNodesOf from
makes_told own (Seen format silence) from = MakesSeenNodes (record { own = own; form = format; silence = silence; from = from })

-- whether all is passed on before the first read
abbrev pub told_flushed : NodesTold → Bool → Bool
told_flushed Held before = before
told_flushed (Seen format silence) before = begins_flushed format before

-- what its columns in lines are called, where it is asked for
abbrev pub nodes_head : Bool → NodesTold → Option (List ℕ)
nodes_head asked Held = head_by asked (Line Seconds) (codes "address name")
nodes_head asked (Seen format silence) = head_by asked format (codes "address name claimed heard")

abbrev pub nodes_meaning : LogInput → Option (List ℕ) → Option (List Sender) → NodesTold → Bool → Meaning
nodes_meaning input names from told has_head =
    record (runs (λ _. AsksNowhere) (λ naming. makes_told naming.own told from) input) { names = names; head = nodes_head has_head told }
