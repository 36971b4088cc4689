-- The parts, one before the other.
use Rattle.j39_reports.proofs.Common.{◌++◌, ◌∷◌, decimal, later_text, subst, WritesBefore, before_then}
use Rattle.j39_reports.proofs.report_records.record_sides.RecordSidesSideForm.write_group.Goals as goal

pub returns-clause-written : goal.returns-clause-written
returns-clause-written c =
    subst (λ called. WritesBefore c.args.out.now c.byte_before.new.out 96 c.byte_before.result ((44 ∷ decimal c.args.pgn) ++ later_text called)) c.or_nothing.ensures
    (before_then _ _ _ _ _ _ _ _ (before_then _ _ _ _ _ _ _ _ c.in_ok-called.ensures.written c.digits_before-number.ensures.written) c.byte_before.ensures)
