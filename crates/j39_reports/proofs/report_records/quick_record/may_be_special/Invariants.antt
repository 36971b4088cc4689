use Rattle.j39_reports.proofs.Common.{◌≡◌, false, length, list_any, is_special}
use Rattle.j39_reports.proofs.report_records.quick_record.may_be_special.Given as goal

-- none so far
abbrev pub invariant-loop-block : goal.invariant-loop-block
invariant-loop-block l = list_any is_special l.rest ≡ false → list_any is_special l.field ≡ false

abbrev pub decreases-loop-block : goal.decreases-loop-block
decreases-loop-block l = length l.rest
