-- The field, and the end of the line.
use Rattle.j39_reports.proofs.Common.{later_text, line_end, puts_first, puts_then}
use Rattle.j39_reports.proofs.report_records.records.put_last_field.Goals as goal

pub returns-in_err-put_behind_comma : goal.returns-in_err-put_behind_comma
returns-in_err-put_behind_comma g c =
    puts_first (later_text c.args.field.now) line_end _ _ _ c.from_residual.ensures.0 c.in_err-put_behind_comma.ensures

pub returns : goal.returns
returns g c = puts_then (later_text c.args.field.now) line_end _ _ _ _ _ c.in_ok-put_behind_comma.ensures c.put_all.ensures.puts
