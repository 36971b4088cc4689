use Rattle.std.proofs.Common.{Bool, ap, refl, ◌∙◌}
use Rattle.j39_frame.specs.Stamp.{stamp_micros}
use Rattle.j39_transport.specs.Receiving.{Heard, answer_in, recv_step}
use Rattle.j39_transport.specs.ReceiverModel.{answer_of}
use Rattle.j39_transport.proofs.Handed.{were_handed, has_heard}
use Rattle.j39_transport.proofs.receiver.Receiver.on.Goals as goal

pub returns : goal.returns
returns c = (
  (refl, (λ _. tt), has_heard c.args.self.now c.args.frame.now (stamp_micros c.args.now) (answer_of c.hear.result) c.hear.follows.lender-at-none c.hear.follows.holds-at-none),
  record {
    answer = (c.hear.ensures.answer.0, c.hear.ensures.answer.2);
    boxed = λ has. c.hear.ensures.answer.2 ∙ ap (λ (found : Bool). answer_in (recv_step c.args.self.now.state (Heard c.args.frame.now) (stamp_micros c.args.now) found)) (c.hear.ensures.answer.1 has);
    delivered = λ E. were_handed E c.args.self.now.state c.args.frame.now (stamp_micros c.args.now) c.hear.ensures.answer.0 (answer_of c.hear.result) c.hear.ensures.answer.2;
    stamp = c.hear.ensures.stamp;
    short = c.hear.ensures.short;
    after = tt;
  },
)
