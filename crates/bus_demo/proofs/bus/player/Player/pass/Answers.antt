-- The steps of a turn, one after another.
use Rattle.std.proofs.Common.{◌≡◌, ◌⊎◌, ◌∙◌, IsSome, None, ap, rules, subst, sym}
use Rattle.j39_frame.specs.Stamp.{stamp_micros}
use Rattle.bus_demo.specs.Calls.{held_after}
use Rattle.bus_demo.specs.Moving.{Moves}
use Rattle.bus_demo.specs.Playing.{controller_of}
use Rattle.bus_demo.specs.Publishing.{AreDueAgain}
use Rattle.bus_demo.specs.declared.bus.player.Player.{Player}
use Rattle.bus_demo.proofs.PlayerLemmas.{on_ok}
use Rattle.bus_demo.proofs.bus.player.Player.pass.Goals as goal

pub returns-clause-turns : goal.returns-clause-turns
returns-clause-turns c =
    let old = c.args.self.now in
    let moved = c.move_on.new.self in
    let new = c.publish.new.self in
    let rest = c.publish.ensures.rest in
    on_ok c.publish.result _ _ (λ measures due. record {
      own = (
        ap (λ (p : Player). p.name) rest ∙ ap (λ (p : Player). p.name) c.move_on.ensures.rest,
        ap (λ (p : Player). p.is_display) rest ∙ ap (λ (p : Player). p.is_display) c.move_on.ensures.rest,
        ap (λ (p : Player). p.starts) rest ∙ ap (λ (p : Player). p.starts) c.move_on.ensures.rest,
      );
      due = ap (λ (p : Player). p.due) rest ∙ (ap (λ (p : Player). p.due) c.move_on.ensures.rest ∙ search rules);
      ticked = c.tick.new.self.controller;
      ticks = c.in_ok-tick.ensures.ticks;
      moved = controller_of moved;
      moves = subst (λ (p : Player). Moves old.commanded c.tick.new.self.controller p.commanded (controller_of moved)) (sym rest) c.move_on.ensures.moves;
      silent = λ w H is none.
          let same = c.publish.ensures.silent w H is (subst (λ (p : Player). (held_after w H ≡ None) ⊎ IsSome p.commanded) rest none) in
          (ap (λ (p : Player). controller_of p) same, ap (λ (p : Player). p.publisher) same ∙ ap (λ (p : Player). p.publisher) c.move_on.ensures.rest);
      measures = λ w H is held none. subst (λ (p : Player). AreDueAgain (stamp_micros c.args.now) p.publisher.rates new.publisher.rates) c.move_on.ensures.rest
          (measures w H is held (sym (ap (λ (p : Player). p.commanded) rest) ∙ none));
      hands_in = c.publish.ensures.hands_in;
    }) c.publish.ensures.measures
