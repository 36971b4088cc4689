-- The key and the value.
use Rattle.j39_io.proofs.PutsLemmas.{puts_first, puts_then}
use Rattle.j39_rows.proofs.row.put_member.Goals as goal

pub returns-in_err-put_parts : goal.returns-in_err-put_parts
returns-in_err-put_parts g c = puts_first _ _ _ _ _ c.from_residual.ensures.0 c.in_err-put_parts.ensures

pub returns : goal.returns
returns g c = puts_then _ _ _ _ _ _ _ c.in_ok-put_parts.ensures c.put_in_object.ensures
