-- It stops at one of the readings that are left.
use Rattle.std.proofs.Common.{◌∙◌, ap, suc, take, drop, map}
use Rattle.std.proofs.lemmas.List.{map-append}
use Rattle.j39_io.proofs.DeviceLemmas.{on_err}
use Rattle.j39_groups.specs.Models.{reading_of}
use Rattle.j39_groups.specs.Sightings.{told}
use Rattle.j39_groups.specs.Visits.{with_medium}
use Rattle.j39_groups.proofs.VisitLemmas.{map-at, stops_at, stops_within}
use Rattle.j39_groups.proofs.visiting.visit_found.Goals as goal

pub returns-in_err-visit-clause-stopped : goal.returns-in_err-visit-clause-stopped
returns-in_err-visit-clause-stopped g c =
    let found = c.args.found.now in
    let i = c.loop-reading.reading-index in
    let cut = ap (map told) (map-at reading_of found i _ c.loop-reading-test.true)
    ∙ map-append told (map reading_of (take i found)) _ in
    on_err c.from_residual.result _ (stops_within (with_medium g.V.ReadingVisitor.has_taken) (λ s before at. g.V.ReadingVisitor.has_stopped s before at c.visit.new.self c.visit.new.medium) _ _ (map told (map reading_of (take i found))) _ (map told (map reading_of (drop (suc i) found))) (map told (map reading_of found))
    cut c.loop-reading.invariant
    (stops_at (with_medium g.V.ReadingVisitor.has_taken) (λ s before at. g.V.ReadingVisitor.has_stopped s before at c.visit.new.self c.visit.new.medium) _ _ c.in_err-visit.ensures.stopped))
