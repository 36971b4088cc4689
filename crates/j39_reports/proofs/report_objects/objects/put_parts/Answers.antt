-- What stands before the parameter, and the members behind it.
use Rattle.j39_io.proofs.PutsLemmas.{puts_first, puts_then}
use Rattle.j39_reports.proofs.report_objects.objects.put_parts.Goals as goal

pub returns-in_err-put_opened : goal.returns-in_err-put_opened
returns-in_err-put_opened g c = puts_first _ _ _ _ _ c.from_residual.ensures.0 c.in_err-put_opened.ensures

pub returns-in_err-put_parameter : goal.returns-in_err-put_parameter
returns-in_err-put_parameter g c =
    puts_then _ _ _ _ _ _ _ c.in_ok-put_opened.ensures (puts_first _ _ _ _ _ c.from_residual-in_err-put_parameter.ensures.0 c.in_err-put_parameter.ensures)

pub returns : goal.returns
returns g c = puts_then _ _ _ _ _ _ _ c.in_ok-put_opened.ensures (puts_then _ _ _ _ _ _ _ c.in_ok-put_parameter.ensures c.put_value_members.ensures)
