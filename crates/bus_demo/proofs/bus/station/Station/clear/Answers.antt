-- One call after another took what there was.
use Rattle.std.proofs.Common.{refl}
use Rattle.std.specs.Option.{option_map}
use Rattle.j39_node.specs.History.Call.{TakeNews, TakeReceived}
use Rattle.j39_node.specs.Is.{received_by}
use Rattle.bus_demo.specs.Calls.{is_taking}
use Rattle.bus_demo.proofs.CallLemmas.{calls_one, calls_then}
use Rattle.bus_demo.proofs.bus.station.Station.clear.Goals as goal

pub loop-message-preserved : goal.loop-message-preserved
loop-message-preserved c =
    calls_then is_taking c.args.self.now.controller c.loop-message.self.controller c.take_received.new.self c.loop-message.invariant
    (calls_one is_taking (TakeReceived (option_map received_by c.take_received.result)) _ _ refl c.take_received.ensures.is)

pub returns : goal.returns
returns c =
    let first = calls_one is_taking (TakeNews c.take_news.result) _ _ refl c.take_news.ensures in
    let second = calls_one is_taking (TakeNews c.take_news-2.result) _ _ refl c.take_news-2.ensures in
    let third = calls_one is_taking (TakeNews c.take_news-3.result) _ _ refl c.take_news-3.ensures in
    calls_then is_taking _ _ _ (calls_then is_taking _ _ _ (calls_then is_taking _ _ _ c.loop-message.invariant first) second) third
