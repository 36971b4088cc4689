-- The table's digits.
use Rattle.std.proofs.Common.{subst}
use Rattle.j39_io.specs.Backwards.{WritesBefore}
use Rattle.j39_io.proofs.BackwardsLemmas.{pair_at}
use Rattle.j39_io.proofs.backwards.pair_before.Goals as goal

pub returns : goal.returns
returns c = subst (λ t. WritesBefore c.args.out.now c.bytes_before.new.out c.args.end c.bytes_before.result t) (pair_at c.args.value c.requires.small) c.bytes_before.ensures.written
