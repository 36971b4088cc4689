use Rattle.j39_listen.proofs.Restricted.{report_among}
use Rattle.j39_listen.proofs.laws.restricted_report.Goals as goal

pub returns : goal.returns
returns c = report_among
