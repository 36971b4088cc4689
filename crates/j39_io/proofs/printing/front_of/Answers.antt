use Rattle.std.proofs.Common.{sym, arith}
use Rattle.j39_io.proofs.PrintingLemmas.{longer_decimal}
use Rattle.j39_io.proofs.printing.front_of.Goals as goal

pub returns-clause-shorter : goal.returns-clause-shorter
returns-clause-shorter c = sym (longer_decimal c.args.value (omega arith) (omega arith))
