-- What comes before the value, and the rest.
use Rattle.j39_io.proofs.PutsLemmas.{puts_first, puts_then}
use Rattle.j39_reports.proofs.report_records.records.put_parts.Goals as goal

pub returns-in_err-put_named : goal.returns-in_err-put_named
returns-in_err-put_named g c = puts_first _ _ _ _ _ c.from_residual.ensures.0 c.in_err-put_named.ensures

pub returns : goal.returns
returns g c = puts_then _ _ _ _ _ _ _ c.in_ok-put_named.ensures c.put_value_and_behind.ensures
