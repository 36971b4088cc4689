use Rattle.std.proofs.Common.{subst}
use Rattle.std.specs.Option.{option_map}
use Rattle.j39_frame.specs.Stamp.{stamp_micros}
use Rattle.j39_transport.specs.Cutting.{to_send}
use Rattle.j39_transport.specs.SenderModel.{event_of, IsSender}
use Rattle.j39_transport.proofs.OwnFrames.{sends_own}
use Rattle.j39_transport.proofs.sender.Sender.on.Goals as goal

pub returns-clause-own : goal.returns-clause-own
returns-clause-own c =
    sends_own c.args.self.now (event_of c.args.event) (stamp_micros c.args.now) (option_map to_send c.step.result) c.step.new.self
    (subst IsSender c.self.view_is c.self.invariant) c.step.ensures
