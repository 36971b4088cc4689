-- Where the line was put whole, it stays so.
use Rattle.j39_cli.proofs.Common.{rules, front_of_all}
use Rattle.j39_cli.proofs.refusal.complain.Goals as goal

pub returns-in-Ok-clause-text : goal.returns-in-Ok-clause-text
returns-in-Ok-clause-text g c = record {
  whole = search rules;
  front = front_of_all _ (g.E.Sink.written c.put_line.new.err) _ _ c.in-Ok.ensures.written c.flush.ensures.bytes;
}
