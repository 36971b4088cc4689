-- A row more.
use Rattle.j39_watch.proofs.Common.{◌≡◌, ◌<◌, ◌∙◌, List, ℕ, ap, arith, get_or, length, sym, get_or_from_slice_get, stamp_micros, capped, Origin, holder_of, pairs_of, naming_of}
use Rattle.j39_watch.proofs.ScreenLemmas.{counted_then, lines_below, next}
use Rattle.j39_watch.specs.Watch.{Line}
use Rattle.j39_watch.specs.WatchSoFar.{value_lines}
use Rattle.j39_watch.specs.declared.latest.Latest.{Latest}
use Rattle.j39_watch.proofs.screen.count_values.Goals as goal

pub loop-at-preserved : goal.loop-at-preserved
loop-at-preserved c =
    let view = c.args.view in
    let pairs = pairs_of c.args.values.now.rows in
    let f = value_lines (naming_of view.naming) (holder_of view.listener.now) (stamp_micros view.now) in
    let x : Origin × Latest = (c.pair_at.result.0, c.pair_at.result.1.now) in
    let below : c.loop-at.at < length pairs = omega (arith, c.len-at-end.ensures) in
    let is : x ≡ get_or pairs c.loop-at.at x = sym (get_or_from_slice_get pairs c.loop-at.at x x c.pair_at.ensures) in
    counted_then c.loop-at.count _ _ (lines_below f pairs c.loop-at.at) (f x) c.loop-at.invariant c.count_value.ensures c.saturating_add-count.ensures
    ∙ ap (λ (ls : List Line). capped (length ls)) (sym (next f pairs c.loop-at.at x below is))
