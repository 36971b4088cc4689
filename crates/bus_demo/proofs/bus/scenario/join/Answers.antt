-- A role with an address has a player.
use Rattle.std.proofs.Common.{IfSome, Option, subst}
use Rattle.bus_demo.specs.Scenario.{IsPlayed, member_of}
use Rattle.bus_demo.specs.declared.bus.player.Player.{Player}
use Rattle.bus_demo.proofs.bus.scenario.join.Goals as goal

pub returns-in_ok-push : goal.returns-in_ok-push
returns-in_ok-push c = λ address. (
  c.in-Some.player,
  subst (λ (found : Option Player). IfSome found (IsPlayed (member_of c.args.role.now))) c.in-Some.is c.in_ok-found.ensures.fresh,
  c.in_ok-push.ensures.items,
)
