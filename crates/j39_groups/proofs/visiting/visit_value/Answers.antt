-- It is the row's one value.
use Rattle.j39_io.proofs.DeviceLemmas.{on_err_from}
use Rattle.j39_groups.specs.Models.{row_record}
use Rattle.j39_groups.specs.Visits.{with_medium}
use Rattle.j39_groups.proofs.VisitLemmas.{sees_value, stops_at}
use Rattle.j39_groups.proofs.visiting.visit_value.Goals as goal

pub returns-in-Some-clause-taken : goal.returns-in-Some-clause-taken
returns-in-Some-clause-taken g c =
    rw (← sees_value c.args.bytes.now (row_record c.args.row.now) _ (rw c.in-Some.is at c.requires.read)) c.visit.ensures.taken

pub returns-in-Some-clause-stopped : goal.returns-in-Some-clause-stopped
returns-in-Some-clause-stopped g c = on_err_from c.visit.result _ _
    (λ wanted. rw (← sees_value c.args.bytes.now (row_record c.args.row.now) _ (rw c.in-Some.is at c.requires.read))
    (stops_at (with_medium g.V.ReadingVisitor.has_taken) (λ s before at. g.V.ReadingVisitor.has_stopped s before at c.visit.new.self c.visit.new.medium) (c.args.visitor.now, c.args.medium.now) _ wanted)) c.visit.ensures.stopped
