use Rattle.std.proofs.Common.{ap}
use Rattle.std.specs.Prelude.{Err}
use Rattle.j39_listen.proofs.running.take.Goals as goal

pub returns-in-Err-Memory-clause-asked : goal.returns-in-Err-Memory-clause-asked
returns-in-Err-Memory-clause-asked g c = λ fails. c.in-Err-Memory.ensures.asked (ap Err c.in-Err-Memory.field-0-is)

pub returns-in-Err-Memory-clause-passed_on : goal.returns-in-Err-Memory-clause-passed_on
returns-in-Err-Memory-clause-passed_on g c = λ fails. c.in-Err-Memory.ensures.passed_on (ap Err c.in-Err-Memory.field-0-is)
