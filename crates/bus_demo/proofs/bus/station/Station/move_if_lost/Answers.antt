-- No address is free.
use Rattle.std.proofs.Common.{inr, refl}
use Rattle.bus_demo.proofs.bus.station.Station.move_if_lost.Goals as goal

pub returns-in_default : goal.returns-in_default
returns-in_default c = record {
  stays = λ w H is not. refl;
  waits = λ w H is not. refl;
  lost = λ w H is cannot settled. inr (c.free_address.ensures.none c.in_default.is w H is, refl);
}
