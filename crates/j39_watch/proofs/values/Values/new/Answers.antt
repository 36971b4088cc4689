use Rattle.j39_memory.specs.ByOrigin.{pairs_of}
use Rattle.j39_watch.proofs.ValueLemmas.{no_values}
use Rattle.j39_watch.proofs.values.Values.new.Goals as goal

pub returns : goal.returns
returns c = no_values (pairs_of c.new.result) c.new.ensures
