-- Where the lines were put whole, it stays so.
use Rattle.std.proofs.Common.{rules}
use Rattle.j39_io.proofs.DeviceLemmas.{front_of_all}
use Rattle.j39_cli.proofs.refusal.tell_wrong_value.Goals as goal

pub returns-in-Ok-clause-text : goal.returns-in-Ok-clause-text
returns-in-Ok-clause-text g c = record {
  whole = search rules;
  front = front_of_all _ (g.E.Sink.written c.put_wrong_value.new.err) _ _ c.in-Ok.ensures.written c.flush.ensures.bytes;
}
