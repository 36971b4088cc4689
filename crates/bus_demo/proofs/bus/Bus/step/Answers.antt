-- The frame of the lowest identifier goes, where there is one.
use Rattle.std.proofs.Common.{List, Option, inl, inr, refl, subst}
use Rattle.j39_frame.specs.declared.identifier.Id.{Id}
use Rattle.bus_demo.specs.Arbitration.{IsLowest, NoneWishes}
use Rattle.bus_demo.proofs.PlayerLemmas.{on_ok}
use Rattle.bus_demo.proofs.bus.Bus.step.Goals as goal

pub returns-in-Some-clause-steps : goal.returns-in-Some-clause-steps
returns-in-Some-clause-steps g c = on_ok c.send.result _ _ (λ sends. record {
  turned = c.turns.new.self;
  players = c.in_ok-turns.ensures.turned;
  asked = c.in_ok-turns.ensures.asked;
  rest = c.in_ok-turns.ensures.rest;
  goes = inl (c.in-Some.sender, subst (λ (wishes : List (Option Id)). IsLowest wishes c.in-Some.sender) c.as_slice.ensures.value c.in-Some.ensures.lowest, sends);
}) c.send.ensures.sends

pub returns-in-None-clause-steps : goal.returns-in-None-clause-steps
returns-in-None-clause-steps g c = record {
  turned = c.turns.new.self;
  players = c.in_ok-turns.ensures.turned;
  asked = c.in_ok-turns.ensures.asked;
  rest = c.in_ok-turns.ensures.rest;
  goes = inr (subst (λ (wishes : List (Option Id)). NoneWishes wishes) c.as_slice.ensures.value (c.winner.ensures.none c.in-None.is), refl, refl);
}
