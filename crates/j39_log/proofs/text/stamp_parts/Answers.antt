-- The parts by where they stand.
use Rattle.std.proofs.Common.{arith}
use Rattle.j39_log.proofs.TextLemmas.{stamp_found, stamp_only}
use Rattle.j39_log.proofs.text.stamp_parts.Goals as goal

pub returns-clause-found : goal.returns-clause-found
returns-clause-found c =
    stamp_found c.args.text.now c.args.cut c.requires (omega arith) (omega arith) c.if-text-ne40.false c.if-text-n-ne46.false c.if-text-n-ne41.false

pub returns-clause-only : goal.returns-clause-only
returns-clause-only c = λ seconds micros rest h len. stamp_only c.args.text.now seconds micros rest c.args.cut h len
