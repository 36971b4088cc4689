-- Each step adds what it says.
use Rattle.j39_cli.proofs.faults.command.Goals as goal

pub returns : goal.returns
returns c = c.with_log.ensures _ (c.with_forms.ensures _ (c.with_head-command.ensures _ (c.with_flag-command-3.ensures _ (c.with_flag-command-2.ensures _ (c.with_flag-command.ensures _ (c.with_asked-command.ensures _ (c.with_option-command.ensures _ (c.with_names-command.ensures _ (c.with_table-command.ensures _ c.new_command.ensures)))))))))
