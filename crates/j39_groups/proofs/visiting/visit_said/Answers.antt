use Rattle.j39_io.proofs.DeviceLemmas.{on_err_from}
use Rattle.j39_groups.specs.Visits.{with_medium}
use Rattle.j39_groups.proofs.VisitLemmas.{stops_at}
use Rattle.j39_groups.proofs.visiting.visit_said.Goals as goal

pub returns-clause-stopped : goal.returns-clause-stopped
returns-clause-stopped g c = on_err_from c.visit.result _ _
    (λ wanted. rw (← c.with.ensures) (stops_at (with_medium g.V.ReadingVisitor.has_taken) (λ s before at. g.V.ReadingVisitor.has_stopped s before at c.visit.new.self c.visit.new.medium) (c.args.visitor.now, c.args.medium.now) _ wanted)) c.visit.ensures.stopped
