-- A table's own faults are no want of memory.
use Rattle.std.proofs.Common.{Err, ap}
use Rattle.j39_c.proofs.table.j39_table_check.Goals as goal

pub returns-in-Err-clause-wrong : goal.returns-in-Err-clause-wrong
returns-in-Err-clause-wrong c refused =
    (c.in-Err.fault, (c.in-Err.ensures.wrong, c.wrong_at.ensures c.args.text.now c.in-Err.ensures.wrong (λ memory. c.in-Err.ensures.memory (ap Err memory))))
