-- A sign before the magnitude, or none.
use Rattle.j39_reports.proofs.Common.{arith, common_steps}
use Rattle.j39_reports.proofs.report_records.quick_record.scaled_before.Goals as goal

pub returns-then-is_negative-clause-written : goal.returns-then-is_negative-clause-written
returns-then-is_negative-clause-written c = grind (arith, common_steps)

pub returns-else-is_negative-clause-written : goal.returns-else-is_negative-clause-written
returns-else-is_negative-clause-written c = grind (arith, common_steps)
