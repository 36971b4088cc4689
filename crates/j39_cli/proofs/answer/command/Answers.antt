-- Each step adds what it says.
use Rattle.j39_cli.proofs.answer.command.Goals as goal

pub returns : goal.returns
returns c = c.with_log.ensures _ (c.with_option.ensures _ (c.with_option-command.ensures _ c.new_command-command.ensures))
