-- The survey and the faults are those of the task.
use Rattle.j39_cli.proofs.performing.perform_below.Goals as goal

pub returns-in-Survey-clause-performed : goal.returns-in-Survey-clause-performed
returns-in-Survey-clause-performed g c = rw c.in-Survey.is c.perform-in-Survey.ensures.survey

pub returns-in-Faults-clause-performed : goal.returns-in-Faults-clause-performed
returns-in-Faults-clause-performed g c = rw c.in-Faults.is c.perform-in-Faults.ensures.run
