-- Each step adds what it says.
use Rattle.j39_cli.proofs.grid.command.Goals as goal

pub returns : goal.returns
returns c = c.with_rows.ensures _ (c.with_option-command.ensures _ c.new_command-command.ensures)
