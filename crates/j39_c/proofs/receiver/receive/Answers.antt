-- A message that is delivered is told as it stands, with its acknowledgment, at the moment of the frame.
use Rattle.std.proofs.Common.{ℕ, None, Some, ap, subst, sym, ◌∙◌}
use Rattle.j39_frame.specs.Frame.{FrameRecord}
use Rattle.j39_listen.specs.HeardModel.{message_of}
use Rattle.j39_transport.specs.ReceiverStands.{HasHeard}
use Rattle.j39_transport.specs.ReceiverModel.{answer_of}
use Rattle.j39_c.proofs.receiver.receive.Goals as goal

pub returns-in-Delivered-clause-receives : goal.returns-in-Delivered-clause-receives
returns-in-Delivered-clause-receives c =
    let at = ap (λ (f : FrameRecord). f.stamp) c.frame.view_is in (
      answer_of c.on.result,
      subst (λ (t : ℕ). HasHeard c.args.receiver.now c.args.frame.now t (answer_of c.on.result) c.on.follows.lender-at-none) at c.on.follows.holds-at-none,
      (
        (c.write_packet-in-Delivered.ensures.moment ∙ at, ap (λ r. (answer_of r).sends) c.in-Delivered.is ∙ ap Some (sym c.write_packet-in-Delivered.ensures.value)),
        message_of c.in-Delivered.whole,
        ap (λ r. (answer_of r).delivers) c.in-Delivered.is,
        c.put_message.ensures
            ∙ ap (λ (t : ℕ). record { message = message_of c.in-Delivered.whole; destination = None; stamp = t; name = None }) (c.in-Delivered.ensures.stamp ∙ at),
      ),
    )
