-- What opens the row, its first column, and those behind it.
use Rattle.j39_io.proofs.PutsLemmas.{puts_first, puts_then}
use Rattle.j39_rows.proofs.row.put_head.Goals as goal

pub returns-in_err-put_opening : goal.returns-in_err-put_opening
returns-in_err-put_opening g c = puts_first _ _ _ _ _ c.from_residual.ensures.0 c.in_err-put_opening.ensures

pub returns-in_err-put_plain : goal.returns-in_err-put_plain
returns-in_err-put_plain g c =
    puts_then _ _ _ _ _ _ _ c.in_ok-put_opening.ensures
    (puts_first _ _ _ _ _ c.from_residual-in_err-put_plain.ensures.0 c.in_err-put_plain.ensures)

pub returns : goal.returns
returns g c =
    puts_then _ _ _ _ _ _ _ c.in_ok-put_opening.ensures
    (puts_then _ _ _ _ _ _ _ c.in_ok-put_plain.ensures c.put_columns.ensures)
