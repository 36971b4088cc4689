-- So many bits.
use Rattle.j39_groups.proofs.NumberLemmas.{bits_below}
use Rattle.j39_groups.proofs.value_in.bits_of.Goals as goal

pub bits_meaning-requires-clause-narrow : goal.bits_meaning-requires-clause-narrow
bits_meaning-requires-clause-narrow c = bits_below c.args.byte c.args.low c.args.count c.args.bytes.now c.in_ok-raw.raw c.in_ok-raw.ensures
