-- Each step adds what it says.
use Rattle.j39_cli.proofs.summary.command.Goals as goal

pub returns : goal.returns
returns c = c.with_rows.ensures _ c.new_command-command.ensures
