-- The filter is that of what is asked for, and the bus that of the task.
use Rattle.std.proofs.Common.{sym}
use Rattle.j39_cli.proofs.watch.run.Goals as goal

pub returns-clause-ran : goal.returns-clause-ran
returns-clause-ran g c = rw (sym c.filter_given.ensures, sym c.copy_of-bus.ensures) c.watch.ensures.ran
