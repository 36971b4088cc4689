-- The table's digits.
use Rattle.std.proofs.Common.{arith, subst}
use Rattle.j39_io.specs.Backwards.{WritesBefore}
use Rattle.j39_io.proofs.BackwardsLemmas.{hex_pair_at}
use Rattle.j39_io.proofs.backwards.hex_pair_before.Goals as goal

pub returns : goal.returns
returns c = subst (λ t. WritesBefore c.args.out.now c.bytes_before.new.out c.args.end c.bytes_before.result t) (hex_pair_at c.args.byte (omega arith)) (rw c.from.ensures at c.bytes_before.ensures.written)
