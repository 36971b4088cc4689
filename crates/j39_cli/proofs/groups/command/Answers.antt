-- Each step adds what it says.
use Rattle.j39_cli.proofs.groups.command.Goals as goal

pub returns : goal.returns
returns c = c.with_table.ensures _ c.new_command.ensures
