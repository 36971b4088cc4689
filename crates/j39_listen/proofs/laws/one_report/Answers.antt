use Rattle.j39_groups.specs.Readings.{is_reported_in}
use Rattle.j39_listen.proofs.Reported.{reported_leaves}
use Rattle.j39_listen.proofs.Unique.{heard_at_unique, heard_below_unique, report_unique}
use Rattle.j39_listen.proofs.laws.one_report.Goals as goal
use Rattle.std.proofs.Common.{length}

pub returns-clause-one_at_a_frame : goal.returns-clause-one_at_a_frame
returns-clause-one_at_a_frame c = λ groups. heard_at_unique (is_reported_in groups) (reported_leaves groups)

pub returns-clause-heard : goal.returns-clause-heard
returns-clause-heard c groups F = heard_below_unique (is_reported_in groups) (reported_leaves groups) F (length F)

pub returns-clause-report : goal.returns-clause-report
returns-clause-report c = report_unique
