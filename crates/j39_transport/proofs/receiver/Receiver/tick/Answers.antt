use Rattle.std.proofs.Common.{None}
use Rattle.std.specs.Option.{option_map}
use Rattle.j39_frame.specs.Stamp.{stamp_micros}
use Rattle.j39_transport.specs.Cutting.{to_send}
use Rattle.j39_transport.proofs.Handed.{stands_still}
use Rattle.j39_transport.proofs.receiver.Receiver.tick.Goals as goal

pub returns-clause-stands : goal.returns-clause-stands
returns-clause-stands c = λ E. stands_still E c.args.self.now.state (stamp_micros c.args.now) (record { sends = option_map to_send c.wait.result; delivers = None }) c.wait.new.self.state c.wait.ensures.step
