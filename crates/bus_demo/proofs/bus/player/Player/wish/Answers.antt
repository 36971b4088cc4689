-- Before its loop turned first it has none.
use Rattle.std.proofs.Common.{◌<◌, arith, refl}
use Rattle.j39_frame.specs.Stamp.{stamp_micros}
use Rattle.bus_demo.proofs.bus.player.Player.wish.Goals as goal

pub returns-then-micros-self : goal.returns-then-micros-self
returns-then-micros-self c =
    let value = c.micros.ensures.value in
    let test = c.if-micros-self.true in
    let early : stamp_micros c.args.now < c.args.self.now.starts = grind arith in
    record { silent = λ _. refl; gives = λ late. absurd (omega (arith, early, late)) }
