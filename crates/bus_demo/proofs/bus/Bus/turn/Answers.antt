-- The player at the place had its turn, and was asked.
use Rattle.std.proofs.Common.{◌<◌, length, refl, rules, slice_set, subst, sym}
use Rattle.std.proofs.Math.ListN.{length-set}
use Rattle.std.proofs.lemmas.Option.{slice_get_read}
use Rattle.j39_frame.specs.Stamp.{stamp_micros}
use Rattle.bus_demo.specs.Turning.{IsWish}
use Rattle.bus_demo.specs.declared.bus.player.Player.{Player}
use Rattle.bus_demo.proofs.TellingLemmas.{stands_set}
use Rattle.bus_demo.proofs.bus.Bus.turn.Goals as goal

pub returns-clause-turned : goal.returns-clause-turned
returns-clause-turned c =
    let players = c.args.self.now.controllers.items in
    let place = c.args.place in
    let after = c.pass.new.self in
    let there : place < length (slice_set players place after) = search (rules, length-set) in
    let asked = slice_get_read (slice_set players place after) (length (slice_set players place after)) place c.index.result.now refl there c.index.ensures in
    record {
      player = c.index_mut.result.now;
      after = after;
      stands = slice_get_read players (length players) place c.index_mut.result.now refl c.requires c.index_mut.ensures.value;
      turned = record { waits = λ early. (c.in_ok-pass.ensures.waits early).1; turns = c.in_ok-pass.ensures.turns };
      players = refl;
      wish = c.wish-wish.result;
      wish_is = subst (λ (p : Player). IsWish (stamp_micros c.args.self.now.now) p c.wish-wish.result)
          (sym (stands_set players place after c.index.result.now c.requires asked)) c.wish-wish.ensures;
      wishes = c.in_ok-push.ensures.items;
    }
