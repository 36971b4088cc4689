use Rattle.j39_watch.proofs.Common.{◌≡◌, length, stamp_micros, capped, holder_of, pairs_of, naming_of}
use Rattle.j39_watch.proofs.ScreenLemmas.{lines_below}
use Rattle.j39_watch.specs.WatchSoFar.{value_lines}
use Rattle.j39_watch.proofs.screen.count_values.Given as goal

-- the lines so far are counted
abbrev pub invariant-loop-at : goal.invariant-loop-at
invariant-loop-at l =
    l.count ≡ capped (length (lines_below (value_lines (naming_of l.view.naming) (holder_of l.view.listener.now) (stamp_micros l.view.now)) (pairs_of l.values.rows) l.at))
