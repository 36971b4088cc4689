-- What is told is the answer of the call that was made.
use Rattle.std.proofs.Common.{rules}
use Rattle.j39_application.specs.Sending.{numbers}
use Rattle.j39_c.proofs.offering.hand_in.Goals as goal

pub returns-clause-hands : goal.returns-clause-hands
returns-clause-hands c = record { answer = numbers c.send.result; accepted = search rules; goes = c.send.ensures.goes }
