-- The text and its bytes.
use Rattle.j39_io.proofs.PutsLemmas.{puts_first, puts_then}
use Rattle.j39_rows.proofs.row.put_sent_member.Goals as goal

pub returns-in_err-put_string : goal.returns-in_err-put_string
returns-in_err-put_string g c = puts_first _ _ _ _ _ c.from_residual.ensures.0 c.in_err-put_string.ensures

pub returns : goal.returns
returns g c = puts_then _ _ _ _ _ _ _ c.in_ok-put_string.ensures c.put_bytes_under.ensures
