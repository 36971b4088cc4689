-- The bytes that have the bits.
use Rattle.std.proofs.Common.{arith}
use Rattle.std.proofs.lemmas.Bool.Decides.{nat_tests}
use Rattle.j39_groups.specs.Readings.{raw_bits}
use Rattle.j39_groups.proofs.raw.raw_bits.Goals as goal

pub returns-then-end-bytes : goal.returns-then-end-bytes
unfolding raw_bits
returns-then-end-bytes c = grind (arith, nat_tests)

pub returns : goal.returns
unfolding raw_bits
returns c = grind (arith, nat_tests)
