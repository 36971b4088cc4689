use Rattle.j39_frame.specs.Stamp.{stamp_micros}
use Rattle.j39_transport.specs.Polling.{answer_of, so_far}
use Rattle.j39_transport.proofs.PollLemmas.{has_sent, is_answer}
use Rattle.j39_transport.proofs.broadcast.BroadcastCourse.poll.Goals as goal

pub returns-clause-answer : goal.returns-clause-answer
returns-clause-answer c = λ sent. is_answer (so_far c.args.message.now c.args.self.now) (so_far c.args.message.now c.step.new.self) (stamp_micros c.args.now) (answer_of c.step.result) sent c.step.ensures

pub returns-clause-sent : goal.returns-clause-sent
returns-clause-sent c = λ sent. has_sent (so_far c.args.message.now c.args.self.now) (so_far c.args.message.now c.step.new.self) (stamp_micros c.args.now) (answer_of c.step.result) sent c.step.ensures
