-- The parts, one before the other.
use Rattle.j39_reports.proofs.Common.{before_then}
use Rattle.j39_reports.proofs.report_objects.object_head.heard_before.Goals as goal

pub returns : goal.returns
returns c = before_then _ _ _ _ _ _ _ _ c.sender_before-sender.ensures.written c.members_before.ensures
