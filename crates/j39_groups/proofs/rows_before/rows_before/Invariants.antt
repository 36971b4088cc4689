use Rattle.std.proofs.Common.{drop}
use Rattle.j39_groups.proofs.ReadLemmas.{RowsWritten}
use Rattle.j39_groups.proofs.rows_before.rows_before.Given as goal

-- the lines of the last rows are written
abbrev pub invariant-rows : goal.invariant-rows
invariant-rows l = RowsWritten (drop l.from l.head) l.bytes l.rows l.fn.out l.out l.left l.at l.lines

abbrev pub decreases-rows : goal.decreases-rows
decreases-rows l = l.left
