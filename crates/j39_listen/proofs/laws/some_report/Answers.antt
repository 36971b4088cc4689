use Rattle.j39_groups.specs.Readings.{is_reported_in}
use Rattle.j39_listen.proofs.Reported.{reported_leaves}
use Rattle.j39_listen.proofs.Existing.{all_heard, heard_exists, report_exists}
use Rattle.j39_listen.proofs.laws.some_report.Goals as goal

pub returns : goal.returns
returns c = record {
  at_a_frame = λ groups. heard_exists (is_reported_in groups) (reported_leaves groups);
  heard = λ groups. all_heard (is_reported_in groups) (reported_leaves groups);
  report = report_exists;
}
