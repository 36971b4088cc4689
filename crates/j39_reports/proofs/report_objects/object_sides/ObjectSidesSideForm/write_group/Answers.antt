-- The parts, one before the other.
use Rattle.j39_reports.proofs.Common.{before_then}
use Rattle.j39_reports.proofs.report_objects.object_sides.ObjectSidesSideForm.write_group.Goals as goal

pub returns-clause-written : goal.returns-clause-written
returns-clause-written c =
    before_then _ _ _ _ _ _ _ _ (before_then _ _ _ _ _ _ _ _ (before_then _ _ _ _ _ _ _ _
    c.in_ok-called.ensures.written c.bytes_before-key.ensures.written) c.digits_before-number.ensures.written) c.bytes_before.ensures.written
