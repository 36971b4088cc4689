-- The moment, the faults and the values.
use Rattle.j39_watch.proofs.Common.{flat_map, stamp_micros, holder_of, pairs_of, naming_of}
use Rattle.j39_watch.proofs.ScreenLemmas.{counted_all}
use Rattle.j39_watch.specs.Watch.{moment_text, plain}
use Rattle.j39_watch.specs.WatchSoFar.{faults_of_places, value_lines}
use Rattle.j39_watch.proofs.screen.count_lines.Goals as goal

pub returns : goal.returns
returns c =
    let view = c.args.view in
    let holder = holder_of view.listener.now in
    let now = stamp_micros view.now in
    counted_all c.count_faults-faults.result c.count_values-values.result _ _ (plain (moment_text view.size.clock now)) (faults_of_places (naming_of view.naming) holder now c.args.places.now 256)
    (flat_map (value_lines (naming_of view.naming) holder now) (pairs_of c.args.values.now.rows)) c.count_faults-faults.ensures c.count_values-values.ensures c.saturating_add.ensures c.saturating_add-2.ensures
