-- So many bits.
use Rattle.j39_groups.proofs.NumberLemmas.{bits_narrow}
use Rattle.j39_groups.proofs.value_in.value_in.Goals as goal

pub full_of-requires-clause-narrow : goal.full_of-requires-clause-narrow
full_of-requires-clause-narrow c =
    bits_narrow c.in-Full.byte c.in-Full.low c.in-Full.count c.args.bytes.now c.raw_bits-raw.result c.raw_bits-raw.ensures
