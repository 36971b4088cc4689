-- Where it was put whole, it stays so.
use Rattle.j39_cli.proofs.Common.{rules, front_of_all}
use Rattle.j39_cli.proofs.refusal.show.Goals as goal

pub returns-in-Ok-clause-text : goal.returns-in-Ok-clause-text
returns-in-Ok-clause-text g c = record {
  whole = search rules;
  front = front_of_all _ (g.S.Sink.written c.put_all.new.sink) _ _ c.in-Ok.ensures.puts.written c.flush.ensures.bytes;
}
