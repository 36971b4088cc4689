use Rattle.j39_address.specs.Call.Call.{Start}
use Rattle.j39_frame.specs.Stamp.{stamp_micros}
use Rattle.j39_listen.proofs.AnswerAccount.{obeys_one}
use Rattle.j39_listen.proofs.answers.start.Goals as goal

pub returns-then-is_idle : goal.returns-then-is_idle
returns-then-is_idle c = rw c.if-is_idle.true (obeys_one c.args.claimer.now c.start.new.self Start (stamp_micros c.args.now) c.start.result c.start.ensures)
