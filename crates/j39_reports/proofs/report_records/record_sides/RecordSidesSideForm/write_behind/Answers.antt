-- The end of the line behind a state without a name.
use Rattle.j39_reports.proofs.Common.{◌++◌, [], later_text, subst, WritesBefore, before_then}
use Rattle.j39_io.specs.Records.{behind_front, escaped_front, field_text, is_formula}
use Rattle.j39_reports.specs.Columns.{last_field}
use Rattle.j39_reports.proofs.report_records.record_sides.RecordSidesSideForm.write_behind.Goals as goal

pub returns-clause-written : goal.returns-clause-written
unfolding field_text escaped_front behind_front is_formula
returns-clause-written c =
    subst (λ unit. WritesBefore c.args.out.now c.field_before.new.out 96 c.in_ok-start.start (later_text unit ++ last_field [])) c.or_nothing.ensures
    (before_then _ _ _ _ _ _ _ _ c.bytes_before-end.ensures.written c.in_ok-start.ensures.written)
