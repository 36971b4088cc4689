use Rattle.j39_memory_in_place.proofs.PairLemmas.{none_apart}
use Rattle.j39_memory_in_place.proofs.by_origin.ByOrigin.new.Goals as goal

pub invariant_of-result-clause-apart : goal.invariant_of-result-clause-apart
invariant_of-result-clause-apart g c = none_apart
