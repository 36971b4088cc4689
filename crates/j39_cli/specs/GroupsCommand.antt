-- The command `groups [--table T]`.
use Rattle.std.specs.Prelude.{◌≡◌, ◌∷◌, [], ℕ, List, Option, codes}
use Rattle.clap.specs.Words.{App, Text, new_app}
use Rattle.j39_groups.specs.Printed.{rows_text}
use Rattle.j39_cli.specs.Form.{Form, Meaning, option, shows}
use Rattle.j39_cli.specs.Rules.{with_table}
use Rattle.j39_cli.specs.declared.task.Task.{Task}
use Rattle.j39_cli.specs.declared.task.Task.TheVariants.{Groups}

abbrev pub groups_app : App
groups_app = with_table (new_app (codes "groups"))

abbrev pub IsGroupsTask : Option (List ℕ) → Task → Type 0
IsGroupsTask table (Groups table') = table' ≡ table
IsGroupsTask table t = ⊥

abbrev pub groups_form : Option Text → Form
groups_form table = record {
  called = codes "groups";
  arguments = option (codes "table") table ∷ [];
  checks = [];
  Is = IsGroupsTask table;
}

abbrev pub groups_meaning : Option (List ℕ) → Meaning
groups_meaning table = record (shows (Unit {0}) rows_text) { table = table }
