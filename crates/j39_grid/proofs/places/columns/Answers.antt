-- One column after the other.
use Rattle.std.proofs.Common.{arith, ◌∙◌, ap, length-set}
use Rattle.j39_rows.specs.Models.{column_of}
use Rattle.j39_grid.specs.Grid.{column_at}
use Rattle.j39_grid.specs.GridModels.{place_of}
use Rattle.j39_grid.specs.declared.place.Place.{Place}
use Rattle.j39_grid.proofs.PlaceLemmas.{made_more}
use Rattle.j39_grid.proofs.places.columns.Goals as goal

pub loop-at-preserved : goal.loop-at-preserved
loop-at-preserved c =
    let known = c.loop-at.invariant.1 in
    let few = c.requires in
    let below = c.loop-at-test.true in (
      made_more column_of column_at place_of c.loop-at.columns c.args.places.now c.loop-at.at c.column.result c.index-places-at.result (omega (arith, known, few, below)) below
          c.loop-at.invariant.0 (c.column.ensures ∙ ap (λ (p : Place). column_at (place_of p)) c.index-places-at.is),
      length-set c.loop-at.columns c.loop-at.at c.column.result ∙ known,
    )
