-- Each step adds what it says.
use Rattle.j39_cli.proofs.cut.command.Goals as goal

pub returns : goal.returns
returns c = c.with_value.ensures _ (c.with_option-command-4.ensures _ (c.with_option-command-3.ensures _ (c.with_option-command-2.ensures _ (c.with_option-command.ensures _ c.new_command-command.ensures))))
