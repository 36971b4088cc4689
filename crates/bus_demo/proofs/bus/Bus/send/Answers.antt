-- What is taken out goes.
use Rattle.std.proofs.Common.{Option, Some, subst}
use Rattle.j39_frame.specs.Stamp.{stamp_micros}
use Rattle.bus_demo.specs.Sending.{TakesAt}
use Rattle.bus_demo.specs.declared.bus.station.Sent.{Sent}
use Rattle.bus_demo.proofs.PlayerLemmas.{on_ok}
use Rattle.bus_demo.proofs.bus.Bus.send.Goals as goal

pub returns-in-Some-clause-sends : goal.returns-in-Some-clause-sends
returns-in-Some-clause-sends g c = on_ok c.carry.result _ _ (λ goes. record {
  sent = Some c.in-Some.sent;
  between = c.take_frame.new.self;
  takes = subst (λ (s : Option Sent). TakesAt (stamp_micros c.args.self.now.now) c.args.sender c.args.self.now.controllers.items s c.take_frame.new.self.controllers.items) c.in-Some.is c.take_frame.ensures.takes;
  rest = c.take_frame.ensures.rest;
  goes = goes;
}) c.carry.ensures.goes
