-- The six and the display are played.
use Rattle.std.proofs.Common.{◌∷◌, [], ap, arith, true}
use Rattle.bus_demo.specs.Scenario.{Member}
use Rattle.bus_demo.proofs.ScenarioLemmas.{same_played}
use Rattle.bus_demo.proofs.bus.display.controllers.Goals as goal

pub returns : goal.returns
returns c =
    let display = ap (λ (m : Member). record m { broadcasts = 6; is_display = true }) c.teller.ensures.0 in
    same_played _ _ (λ players. players.items) c.play.result _ _
    (λ i. c.teller-2.ensures.0 i ∷ c.teller-3.ensures.0 i ∷ c.teller-4.ensures.0 i ∷ c.teller-5.ensures.0 i ∷ c.teller-6.ensures.0 i ∷ c.teller-7.ensures.0 i ∷ display i ∷ [])
    (omega arith, (omega arith, (omega arith, (omega arith, (omega arith, (omega arith, (omega arith, tt))))))) c.play.ensures
