-- Each step adds what it says.
use Rattle.j39_cli.proofs.survey.command.Goals as goal

pub returns : goal.returns
returns c = c.with_log.ensures _ (c.with_forms.ensures _ (c.with_names-command.ensures _ (c.with_table.ensures _ c.new_command-command.ensures)))
