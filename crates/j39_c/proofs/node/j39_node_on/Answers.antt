-- The frame that is heard is the one that C handed in.
use Rattle.std.proofs.Common.{rules, subst, to_z, of_z, w32}
use Rattle.j39_frame.specs.Frame.{FrameRecord}
use Rattle.j39_address.specs.Call.{call_of}
use Rattle.j39_address.specs.Claimer.{MakesStep}
use Rattle.j39_c.specs.Codes.{sent}
use Rattle.j39_c.proofs.node.j39_node_on.Goals as goal

pub returns-clause-step : goal.returns-clause-step
returns-clause-step c = λ fits n h.
    subst (λ (f : FrameRecord). MakesStep n (call_of f) f.stamp (sent (to_z w32 (of_z w32 c.put_frame.result)) c.put_frame.new.can) c.hear.new.node)
    c.in-Some.ensures.value (search rules)
