-- A frame from outside is seen behind what was played until then.
use Rattle.std.proofs.Common.{rules}
use Rattle.bus_demo.proofs.PlayerLemmas.{on_ok}
use Rattle.bus_demo.proofs.bus.Bus.admit.Goals as goal

pub returns-clause-admits : goal.returns-clause-admits
returns-clause-admits g c = on_ok c.show.result _ _ (λ seen. record {
  before = c.run.new.self;
  between = record { bytes = g.W.Sink.written c.run.new.log; has_failed = g.W.Sink.has_failed c.run.new.log };
  plays = search rules;
  count = search rules;
  seen = search rules;
}) c.show.ensures.seen
