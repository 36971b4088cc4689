-- The comma and the field.
use Rattle.j39_io.proofs.PutsLemmas.{puts_first, puts_then}
use Rattle.j39_rows.proofs.row.put_plain_field.Goals as goal

pub returns-in_err-put_all : goal.returns-in_err-put_all
returns-in_err-put_all g c = puts_first _ _ _ _ _ c.from_residual.ensures.0 c.in_err-put_all.ensures.puts

pub returns : goal.returns
returns g c = puts_then _ _ _ _ _ _ _ c.in_ok-put_all.ensures.puts c.put_plain.ensures
