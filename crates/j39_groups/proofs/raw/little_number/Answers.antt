-- Four bytes fit 32 bits.
use Rattle.std.proofs.Common.{◌<◌, ◌≤◌, ◌^◌, length, arith}
use Rattle.byteorder.specs.Endian.{little_number}
use Rattle.byteorder.specs.Numbers.{little_from-lt}
use Rattle.j39_groups.proofs.NumberLemmas.{pow-256-le}
use Rattle.j39_groups.proofs.raw.little_number.Goals as goal

pub overflow_cast-result : goal.overflow_cast-result
overflow_cast-result c =
    let n = length c.args.part.now in
    let below : little_number n c.args.part.now < 256 ^ n = little_from-lt 0 n c.args.part.now (λ k. let byte = c.type_inv.part k in omega arith) in
    let top : 256 ^ n ≤ 2 ^ 32 = pow-256-le n c.requires.narrow in
    let same = c.read_uint.ensures in
    omega (arith, below, top, same)
