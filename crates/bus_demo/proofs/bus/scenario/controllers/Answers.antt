-- The four are played.
use Rattle.std.proofs.Common.{◌∷◌, [], arith}
use Rattle.bus_demo.proofs.ScenarioLemmas.{same_played}
use Rattle.bus_demo.proofs.bus.scenario.controllers.Goals as goal

pub returns : goal.returns
returns c =
    same_played _ _ (λ players. players.items) c.play.result _ _
    (λ i. c.engine.ensures.0 i ∷ c.rival.ensures.0 i ∷ c.gearbox.ensures.0 i ∷ c.tool.ensures.0 i ∷ [])
    (omega arith, (omega arith, (omega arith, (omega arith, tt)))) c.play.ensures
