-- The readings are the same.
use Rattle.std.proofs.Common.{◌∷◌, [], append-nil}
use Rattle.std.proofs.lemmas.List.Elements.{filter_map-append}
use Rattle.j39_groups.specs.Sightings.{absent, told_by, told_in}
use Rattle.j39_grid.proofs.rows.RowsReadingVisitor.visit_absent.Goals as goal

pub returns-clause-taken : goal.returns-clause-taken
returns-clause-taken g c = λ subject before has.
    rw (filter_map-append told_by before (absent c.args.arg2 ∷ []), append-nil (told_in before)) has
