-- After a fault a front of the rows that are left was written.
use Rattle.j39_groups.specs.Models.{row_record}
use Rattle.j39_groups.specs.declared.row.Row.{Row}
use Rattle.j39_groups.specs.Printed.{row_text}
use Rattle.j39_io.proofs.PutsLemmas.{puts_until}
use Rattle.j39_groups.proofs.printed.put_rows.Goals as goal

pub returns-in_err-put_row : goal.returns-in_err-put_row
returns-in_err-put_row g c =
    puts_until (λ (row : Row). row_text (row_record row)) c.args.rows.now c.loop-row.row-index _ tt _ _ _ _ _
    c.loop-row-test.true c.from_residual.ensures.0 c.loop-row.invariant c.in_err-put_row.ensures
