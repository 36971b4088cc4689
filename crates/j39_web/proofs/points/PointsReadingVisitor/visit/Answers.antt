-- The reading behind the others.
use Rattle.std.proofs.Common.{◌∷◌, [], rules}
use Rattle.std.proofs.lemmas.List.Elements.{filter_map-append}
use Rattle.j39_io.proofs.DeviceLemmas.{on_err}
use Rattle.j39_groups.specs.Models.{value_of}
use Rattle.j39_groups.specs.Sightings.{told_by, told_in}
use Rattle.j39_groups.specs.Visits.{visited}
use Rattle.j39_web.proofs.SeriesLemmas.{stops_here, takes_this}
use Rattle.j39_web.proofs.points.PointsReadingVisitor.visit.Goals as goal

pub returns-in_err-put_point-clause-stopped : goal.returns-in_err-put_point-clause-stopped
returns-in_err-put_point-clause-stopped g c =
    on_err c.from_residual.result _ (λ subject before has.
    rw (filter_map-append told_by before (visited c.args.spn c.args.value ∷ []))
    (stops_here subject c.args.self.now _ (told_in before) has c.args.spn (value_of c.args.value) _ (search rules) _ _ c.in_err-put_point.ensures))

pub returns-clause-taken : goal.returns-clause-taken
returns-clause-taken g c = λ subject before has.
    rw (filter_map-append told_by before (visited c.args.spn c.args.value ∷ []))
    (takes_this subject c.args.self.now _ (told_in before) has c.args.spn (value_of c.args.value) _ (search rules) _ _ _
    (record { from_is = has.is_begun.from_is; spn_is = has.is_begun.spn_is; stamp_is = has.is_begun.stamp_is }) c.saturating_add-self.ensures c.in_ok-put_point.ensures)
