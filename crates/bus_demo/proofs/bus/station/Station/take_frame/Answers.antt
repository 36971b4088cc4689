-- Where there is no frame, no message ends.
use Rattle.std.proofs.Common.{◌≡◌, Option, rules, subst}
use Rattle.std.specs.Option.{option_map}
use Rattle.j39_frame.specs.Frame.{FrameRecord}
use Rattle.j39_frame.specs.Stamp.{stamp_micros}
use Rattle.j39_node.specs.History.Call.{At}
use Rattle.j39_node.specs.History.Act.{TakeFrame}
use Rattle.bus_demo.specs.Calls.{Continues, is_taking}
use Rattle.bus_demo.specs.declared.bus.station.Sent.{Sent}
use Rattle.bus_demo.proofs.CallLemmas.{calls_none}
use Rattle.bus_demo.proofs.bus.station.Station.take_frame.Goals as goal

pub returns-in_err-frame-clause-calls : goal.returns-in_err-frame-clause-calls
returns-in_err-frame-clause-calls c =
    let none : c.take_frame.result ≡ option_map (λ (sent : Sent). sent.frame) c.from_residual.result = search rules in (
      c.take_frame.new.self,
      subst (λ (frame : Option FrameRecord). Continues (At (stamp_micros c.args.now) (TakeFrame frame)) c.args.self.now.controller c.take_frame.new.self) none c.take_frame.ensures,
      calls_none is_taking c.take_frame.new.self,
    )
