use Rattle.j39_reports.proofs.Common.{codes, value_of, puts_first, puts_then}
use Rattle.j39_reports.specs.EntryObject.{value_json}
use Rattle.j39_reports.proofs.report_objects.objects.put_value.Goals as goal

pub returns-in_err-put_all : goal.returns-in_err-put_all
returns-in_err-put_all g c = puts_first (codes ",\"value\":") (value_json (value_of c.args.value)) _ _ _ c.from_residual.ensures.0 c.in_err-put_all.ensures.puts

pub returns : goal.returns
returns g c = puts_then (codes ",\"value\":") (value_json (value_of c.args.value)) _ _ _ _ _ c.in_ok-put_all.ensures.puts c.put_json.ensures
