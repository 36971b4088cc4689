-- The command `answer --name H --address N [--bus B] [FILE]..`.
use Rattle.std.specs.Prelude.{◌≡◌, ◌<◌, ◌^◌, ◌∷◌, [], ℕ, true, List, Option, Some, codes}
use Rattle.std.specs.Option.{ForSome}
use Rattle.std.specs.Str.Parse.{digits_value}
use Rattle.clap.specs.Words.{App, Text, new_app, with_rule}
use Rattle.j39_address.specs.Name.{name_raw}
use Rattle.j39_address.specs.Node.{idle_node}
use Rattle.j39_frame.specs.Address.{IsAddress}
use Rattle.j39_log.specs.Bus.{IsBusName}
use Rattle.j39_listen.specs.Asking.{AsksForBoxes}
use Rattle.j39_listen.specs.Output.{MakesAnswers}
use Rattle.j39_cli.specs.Answer.{bus_check, check}
use Rattle.j39_cli.specs.Numbers.{IsNumberBelow}
use Rattle.j39_cli.specs.Form.{Form, Meaning, option, values}
use Rattle.j39_cli.specs.LogCommand.{runs, with_log}
use Rattle.j39_cli.specs.NameCommand.{IsNameText}
use Rattle.j39_cli.specs.Rules.{option_rule}
use Rattle.j39_cli.specs.declared.task.Argument.TheVariants as argument
use Rattle.j39_cli.specs.declared.task.LogInput.{LogInput}
use Rattle.j39_cli.specs.declared.task.Task.{Task}
use Rattle.j39_cli.specs.declared.task.Task.TheVariants.{Answer}

abbrev pub answer_app : App
answer_app = with_log (with_rule (with_rule (new_app (codes "answer")) (option_rule (codes "name") true))
    (option_rule (codes "address") true))

abbrev pub IsNodeTask : ℕ → ℕ → Option (List ℕ) → List (List ℕ) → Task → Type 0
IsNodeTask node address bus file (Answer node' address' input) =
    (name_raw node' ≡ node) × (address' ≡ address) × (input.bus ≡ bus) × (input.file ≡ file)
IsNodeTask node address bus file t = ⊥

abbrev pub answer_form : Text → Text → Option Text → List Text → Form
answer_form node address bus file = record {
  called = codes "answer";
  arguments = option (codes "name") (Some node) ∷ option (codes "address") (Some address) ∷ option (codes "bus") bus
      ∷ values (codes "file") file ∷ [];
  checks = check (IsNameText node) argument.Name ∷ check (IsNumberBelow 254 address) argument.Address ∷ bus_check bus ∷ [];
  Is = IsNodeTask (digits_value 16 node) (digits_value 10 address) bus file;
}

abbrev pub answer_meaning : ℕ → ℕ → LogInput → Meaning
answer_meaning name address input = record (runs (λ _. AsksForBoxes)
    (λ _. MakesAnswers (idle_node name address)) input)
    { InRange = (name < 2 ^ 64) × IsAddress address × ForSome input.bus IsBusName }
