-- What the row begins with, the columns behind it, and what closes it.
use Rattle.j39_io.proofs.PutsLemmas.{puts_as, puts_first, puts_then}
use Rattle.j39_rows.specs.Row.{row_text}
use Rattle.j39_rows.proofs.row.put_row.Goals as goal

pub returns-in_err-put_head : goal.returns-in_err-put_head
unfolding row_text
returns-in_err-put_head g c = puts_first _ _ _ _ _ c.from_residual.ensures.0 c.in_err-put_head.ensures

pub returns-in_err-put_columns : goal.returns-in_err-put_columns
unfolding row_text
returns-in_err-put_columns g c =
    puts_then _ _ _ _ _ _ _ c.in_ok-put_head.ensures (puts_first _ _ _ _ _ c.from_residual-in_err-put_columns.ensures.0
    c.in_err-put_columns.ensures)

pub returns : goal.returns
unfolding row_text
returns g c =
    puts_then _ _ _ _ _ _ _ c.in_ok-put_head.ensures
    (puts_then _ _ _ _ _ _ _ c.in_ok-put_columns.ensures
    (puts_as _ _ _ _ c.closing.ensures c.put_all.ensures.puts))
