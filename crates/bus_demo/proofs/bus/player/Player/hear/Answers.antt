-- Heard, obeyed and moved.
use Rattle.std.proofs.Common.{◌∙◌, Option, ℕ, ap}
use Rattle.bus_demo.specs.Playing.{target}
use Rattle.bus_demo.proofs.bus.player.Player.hear.Goals as goal

pub returns-clause-heard : goal.returns-clause-heard
returns-clause-heard c = record {
  heard = c.hear.new.self.controller;
  hears = c.in_ok-hear.ensures.hears;
  obeyed = c.command-command.new.self.controller;
  obeys = c.command-command.ensures.calls;
  aim = c.target-self.result;
  commanded = λ w H is. c.target-self.ensures ∙ ap (λ (x : Option ℕ). target x c.args.self.now.commanded) (c.command-command.ensures.value w H is);
  moves = c.move_on.ensures.moves;
  rest = c.move_on.ensures.rest;
}
