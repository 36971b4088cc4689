-- The bytes of the number.
use Rattle.std.proofs.Common.{arith}
use Rattle.std.proofs.lemmas.Bool.Decides.{nat_tests}
use Rattle.j39_groups.specs.Readings.{raw_number}
use Rattle.j39_groups.proofs.raw.raw_of.Goals as goal

pub returns : goal.returns
unfolding raw_number
returns g c = grind (arith, nat_tests)

pub returns-then-start-bytes : goal.returns-then-start-bytes
unfolding raw_number
returns-then-start-bytes g c = grind (arith, nat_tests)
