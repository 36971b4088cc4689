-- What was broadcast is released.
use Rattle.std.proofs.Common.{refl}
use Rattle.j39_node.specs.History.Call.{ReleaseBroadcast}
use Rattle.bus_demo.specs.Calls.{is_taking}
use Rattle.bus_demo.proofs.CallLemmas.{calls_one}
use Rattle.bus_demo.proofs.bus.station.Station.command.Goals as goal

pub returns-clause-calls : goal.returns-clause-calls
returns-clause-calls c = calls_one is_taking (ReleaseBroadcast c.release_broadcast.result) _ _ refl c.release_broadcast.ensures
