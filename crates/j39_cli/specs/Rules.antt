-- What clap is told of arguments.
use Rattle.std.specs.Prelude.{◌≡◌, Bool, false, IfOk, Option, None, Result, Some, bytes_eq, codes}
use Rattle.clap.specs.Words.{App, Rule, Text, app_of, new_rule, with_rule}
use Rattle.clap.specs.declared.builder.command.Command.{Command}
use Rattle.clap.specs.declared.builder.command.Command.TheViews.{out-Command as settings_of}
use Rattle.clap.specs.declared.builder.action.ArgAction.TheVariants.{Append, SetTrue}

-- `--name VALUE`
abbrev pub option_rule : Text → Bool → Rule
option_rule name is_required = record (new_rule name) { long = Some name; value_names = 1; required = is_required }

-- a value that stands alone
abbrev pub value_rule : Text → Bool → Rule
value_rule name is_required = record (new_rule name) { value_names = 1; required = is_required }

-- as many values as there are, each of which stands alone
abbrev pub values_rule : Text → Rule
values_rule name = record (new_rule name) { value_names = 1; action = Some Append }

-- `--name`, a flag
abbrev pub flag_rule : Text → Rule
flag_rule name = record (new_rule name) { long = Some name; action = Some SetTrue }

-- whether a flag is given: clap says `true` of it
abbrev pub is_given : Option Text → Bool
is_given None = false
is_given (Some text) = bytes_eq text (codes "true")

-- a command that goes by a table of parameters takes `--table`
abbrev pub with_table : App → App
with_table command = with_rule command (option_rule (codes "table") false)

-- one that tells what numbers are called takes `--names`
abbrev pub with_names : App → App
with_names command = with_rule command (option_rule (codes "names") false)

-- one whose lines may have a head takes `--head`
abbrev pub with_head : App → App
with_head command = with_rule command (flag_rule (codes "head"))

-- the command, where memory was found for it, is told as this, and none of its arguments goes for the commands below it
abbrev pub IsMade : {E : Type 0} → Result Command E → App → Type 0
IsMade made told = IfOk made (λ c. (app_of c ≡ told) × ((settings_of c).has_globals ≡ false))
