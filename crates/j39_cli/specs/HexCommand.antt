-- What the commands with one word have in common: `id HEX`, `name HEX`.
use Rattle.std.specs.Prelude.{◌∷◌, true, [], Some, codes}
use Rattle.clap.specs.Words.{App, Text, new_app, with_rule}
use Rattle.j39_cli.specs.Answer.{check}
use Rattle.j39_cli.specs.Form.{Form, value}
use Rattle.j39_cli.specs.Rules.{value_rule}
use Rattle.j39_cli.specs.declared.task.Argument.TheVariants.{Hex}
use Rattle.j39_cli.specs.declared.task.Task.{Task}

abbrev pub hex_app : Text → App
hex_app called = with_rule (new_app called) (value_rule (codes "hex") true)

-- the task is this one, where the word is in range
abbrev pub hex_form : Text → Text → Type 0 → (Task → Type 0) → Form
hex_form called hex InRange Is = record {
  called = called;
  arguments = value (codes "hex") (Some hex) ∷ [];
  checks = check InRange Hex ∷ [];
  Is = Is;
}
