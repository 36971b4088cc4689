-- One player more had its turn, and was asked.
use Rattle.std.proofs.Common.{◌≡◌, ◌<◌, ◌∙◌, ◌+◌, ◌++◌, ◌∷◌, [], List, Option, ap, arith, length, rules, take_all, subst, sym, take}
use Rattle.j39_frame.specs.Stamp.{stamp_micros}
use Rattle.j39_frame.specs.declared.identifier.Id.{Id}
use Rattle.bus_demo.specs.Playing.{HadTurn, HappenedBelow}
use Rattle.bus_demo.specs.Turning.{AreAsked, IsWish}
use Rattle.bus_demo.specs.declared.bus.Bus.{Bus}
use Rattle.bus_demo.specs.declared.bus.player.Player.{Player}
use Rattle.bus_demo.proofs.TellingLemmas.{happened_then, one_asked}
use Rattle.bus_demo.proofs.bus.Bus.turns.Goals as goal

pub loop-place-preserved : goal.loop-place-preserved
loop-place-preserved c =
    let inv = c.loop-place.invariant in
    let n = c.loop-place.place in
    let micros = stamp_micros c.args.self.now.now in
    let old = c.args.self.now.controllers.items in
    let mid = c.loop-place.self.controllers.items in
    let new = c.turn.new.self in
    let one = c.in_ok-turn.ensures.turned in
    let inside : n < length mid = search rules in
    record {
      turned = subst (λ (xs : List Player). HappenedBelow (λ _. HadTurn micros) (n + 1) old xs) (sym one.players)
          (happened_then (λ _. HadTurn micros) n old mid one.player one.after inside inv.turned one.stands
          (subst (λ m. HadTurn m one.player one.after) (ap (λ (b : Bus). stamp_micros b.now) inv.rest) one.turned));
      asked = subst (λ (ws : List (Option Id)). AreAsked micros (take (n + 1) new.controllers.items) ws) (sym one.wishes)
          (subst (λ (xs : List Player). AreAsked micros (take (n + 1) xs) (c.loop-place.self.wishes.items ++ (one.wish ∷ []))) (sym one.players)
          (one_asked micros n mid one.after c.loop-place.self.wishes.items one.wish inside inv.asked
          (subst (λ m. IsWish m one.after one.wish) (ap (λ (b : Bus). stamp_micros b.now) inv.rest) one.wish_is)));
      rest = c.turn.ensures.rest ∙ ap (λ (b : Bus). record b { controllers = new.controllers; wishes = new.wishes; book = new.book }) inv.rest;
    }

pub returns-clause-turned : goal.returns-clause-turned
returns-clause-turned c =
    let old = c.args.self.now.controllers.items in
    let all : c.loop-place.place ≡ length old = search rules in
    subst (λ n. HappenedBelow (λ _. HadTurn (stamp_micros c.args.self.now.now)) n old c.loop-place.self.controllers.items) all c.loop-place.invariant.turned

pub returns-clause-asked : goal.returns-clause-asked
returns-clause-asked c =
    let inv = c.loop-place.invariant in
    let new = c.loop-place.self.controllers.items in
    let count = inv.turned.count in
    subst (λ (xs : List Player). AreAsked (stamp_micros c.args.self.now.now) xs c.loop-place.self.wishes.items)
    (take_all c.loop-place.place new (omega (arith, c.loop-place-test.false, count))) inv.asked
