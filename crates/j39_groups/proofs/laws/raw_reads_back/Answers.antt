-- The row that holds the raw number is the parameter's only one.
use Rattle.j39_groups.proofs.ReadBackLemmas.{reads_back}
use Rattle.j39_groups.proofs.laws.raw_reads_back.Goals as goal

pub returns : goal.returns
returns c = reads_back
