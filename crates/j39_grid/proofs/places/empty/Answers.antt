-- One column after the other.
use Rattle.std.proofs.Common.{add-one}
use Rattle.j39_grid.specs.GridModels.{place_of}
use Rattle.j39_grid.specs.GridSoFar.{emptied}
use Rattle.j39_grid.proofs.PlaceLemmas.{met_at}
use Rattle.j39_grid.proofs.places.empty.Goals as goal

pub loop-place-preserved : goal.loop-place-preserved
loop-place-preserved c =
    let i = c.loop-place.place-index in
    rw (add-one i) (met_at place_of emptied c.loop-place.places c.args.places.now i c.empty.new.self c.place-item.result
    c.loop-place-test.true c.loop-place.invariant c.empty.ensures)
