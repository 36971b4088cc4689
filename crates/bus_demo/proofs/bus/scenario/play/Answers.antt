-- One role more is played.
use Rattle.bus_demo.proofs.ScenarioLemmas.{played_more}
use Rattle.bus_demo.proofs.bus.scenario.play.Goals as goal

pub loop-place-preserved : goal.loop-place-preserved
loop-place-preserved c =
    played_more c.args.roles.now c.loop-place.place _ c.loop-place.players.items c.join.new.players.items c.loop-place-test.true c.loop-place.invariant
    c.in_ok-join.ensures
