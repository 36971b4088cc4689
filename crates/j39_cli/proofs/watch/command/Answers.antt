-- Each step adds what it says.
use Rattle.j39_cli.proofs.watch.command.Goals as goal

pub returns : goal.returns
returns c = c.with_log.ensures _ (c.with_flag.ensures _ (c.with_flag-command.ensures _ (c.with_option-command-2.ensures _ (c.with_option-command.ensures _ (c.with_asked-command.ensures _ (c.with_names-command.ensures _ (c.with_table-command.ensures _ c.new_command.ensures)))))))
