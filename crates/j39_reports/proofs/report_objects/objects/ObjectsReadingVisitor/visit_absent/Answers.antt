-- The readings are the same.
use Rattle.j39_reports.proofs.Common.{◌∷◌, [], append-nil, filter_map-append, absent, told_by, told_in}
use Rattle.j39_reports.proofs.report_objects.objects.ObjectsReadingVisitor.visit_absent.Goals as goal

pub returns-clause-taken : goal.returns-clause-taken
returns-clause-taken g c = λ subject before has.
    rw (filter_map-append told_by before (absent c.args.arg2 ∷ []), append-nil (told_in before)) has
