-- It stops in one of the rows that are left.
use Rattle.std.proofs.Common.{List, suc, take, drop}
use Rattle.std.specs.List.{flat_map}
use Rattle.j39_io.proofs.DeviceLemmas.{on_err}
use Rattle.j39_groups.specs.Sightings.{SightingRecord}
use Rattle.j39_groups.specs.Visits.{row_sightings, with_medium}
use Rattle.j39_groups.specs.declared.row.Row.{Row}
use Rattle.j39_groups.proofs.ListLemmas.{flat_map-at}
use Rattle.j39_groups.proofs.VisitLemmas.{stops_within}
use Rattle.j39_groups.proofs.visiting.visit_rows.Goals as goal

pub returns-in_err-visit_row-clause-stopped : goal.returns-in_err-visit_row-clause-stopped
returns-in_err-visit_row-clause-stopped g c =
    let found : Row → List SightingRecord = row_sightings c.args.bytes.now in
    let rows = c.args.rows.now in
    let i = c.loop-row.row-index in
    on_err c.from_residual.result _ (stops_within (with_medium g.V.ReadingVisitor.has_taken) (λ s before at. g.V.ReadingVisitor.has_stopped s before at c.visit_row.new.visitor c.visit_row.new.medium) _ _ (flat_map found (take i rows)) _ (flat_map found (drop (suc i) rows)) (flat_map found rows)
    (flat_map-at found rows i _ c.loop-row-test.true) c.loop-row.invariant c.in_err-visit_row.ensures.stopped)
