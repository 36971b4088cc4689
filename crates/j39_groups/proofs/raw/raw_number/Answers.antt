-- The bytes of the number.
use Rattle.std.proofs.Common.{arith}
use Rattle.std.proofs.lemmas.Bool.Decides.{nat_tests}
use Rattle.j39_groups.specs.Readings.{raw_number}
use Rattle.j39_groups.proofs.raw.raw_number.Goals as goal

pub returns-then-end-bytes : goal.returns-then-end-bytes
unfolding raw_number
returns-then-end-bytes c = grind (arith, nat_tests)

pub returns : goal.returns
unfolding raw_number
returns c = grind (arith, nat_tests)
