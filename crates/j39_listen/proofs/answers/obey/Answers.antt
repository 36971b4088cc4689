use Rattle.j39_address.specs.Call.Call.{Commanded}
use Rattle.j39_address.specs.Command.{command_by}
use Rattle.j39_frame.specs.Stamp.{stamp_micros}
use Rattle.j39_listen.proofs.AnswerAccount.{obeys_one}
use Rattle.j39_listen.proofs.answers.obey.Goals as goal

pub returns-in-Some : goal.returns-in-Some
returns-in-Some c =
    rw c.in-Some.is (obeys_one c.args.claimer.now c.commanded.new.self (Commanded (command_by (c.in-Some.name, c.in-Some.address))) (stamp_micros c.args.now) c.commanded.result c.commanded.ensures)
