-- A number of whole bytes fits.
use Rattle.std.proofs.Common.{◌-◌, arith}
use Rattle.std.proofs.Math.Pow.{pow_mono}
use Rattle.j39_table.proofs.states.bits_limit.Goals as goal

pub returns-then-count-eq0-clause-few : goal.returns-then-count-eq0-clause-few
returns-then-count-eq0-clause-few c =
    let small = pow_mono {i = c.args.count - 8} {j = 24} (omega (arith, c.requires.few)) in
    let value = c.power_of_two.ensures.value in omega (arith, small, value)
