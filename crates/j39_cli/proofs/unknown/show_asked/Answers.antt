-- Where the lines were put whole, they stay so.
use Rattle.j39_cli.proofs.Common.{rules, front_of_all}
use Rattle.j39_cli.proofs.unknown.show_asked.Goals as goal

pub returns-in-Ok-clause-told : goal.returns-in-Ok-clause-told
returns-in-Ok-clause-told g c = record {
  whole = search rules;
  front = front_of_all _ (g.E.Sink.written c.put_asked.new.err) _ _ c.in-Ok.ensures.written c.flush.ensures.bytes;
}
