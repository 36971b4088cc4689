use Rattle.std.proofs.Common.{arith}
use Rattle.hex.proofs.HexLemmas.{decode_of-ok}
use Rattle.j39_log.proofs.text.bytes_of.Goals as goal
use Rattle.j39_log.proofs.text.bytes_of.Goals.{then-pairs-gt16-via-then-pairs-gt16, then-pairs-gt16-via-else-pairs-gt16+then-pairs-eq1}

pub returns-then-pairs-gt16-clause-only : goal.returns-then-pairs-gt16-clause-only
returns-then-pairs-gt16-clause-only c = λ bytes h fits.
    let pairs = decode_of-ok c.args.pairs.now bytes h in
    elim c.then-pairs-gt16.branch [
      | then-pairs-gt16-via-then-pairs-gt16 w ↦ omega (arith, pairs.2)
      | then-pairs-gt16-via-else-pairs-gt16+then-pairs-eq1 w ↦ omega (arith, pairs.0)
    ]
