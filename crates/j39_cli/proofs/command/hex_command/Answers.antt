-- Each step adds what it says.
use Rattle.j39_cli.proofs.command.hex_command.Goals as goal

pub returns : goal.returns
returns c = c.with_value.ensures _ c.new_command-command.ensures
