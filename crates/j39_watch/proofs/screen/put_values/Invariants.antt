use Rattle.j39_watch.proofs.Common.{◌≡◌, ◌+◌, ◌-◌, Ok, length, stamp_micros, Puts, turn, holder_of, pairs_of, naming_of}
use Rattle.j39_watch.proofs.ScreenLemmas.{lines_below}
use Rattle.j39_watch.specs.WatchSoFar.{limited, value_lines}
use Rattle.j39_watch.specs.NotesSoFar.{size_of}
use Rattle.j39_watch.proofs.screen.put_values.Given as goal

-- the lines so far are written, no fault came, and the line is a byte wider than the view
abbrev pub invariant-loop-at : goal.invariant-loop-at
invariant-loop-at g l =
    (l.left ≡ l.room - length (lines_below (value_lines (naming_of l.view.naming) (holder_of l.view.listener.now) (stamp_micros l.view.now)) (pairs_of l.values.rows) l.at))
    × Puts {T = Unit} {E = Unit} (limited (size_of l.view.size) l.room (lines_below (value_lines (naming_of l.view.naming) (holder_of l.view.listener.now) (stamp_micros l.view.now)) (pairs_of l.values.rows) l.at)) (Ok tt)
    (turn g.W.Sink.written g.W.Sink.has_failed l.initial.sink l.sink)
    × (l.line.width ≡ l.view.size.width + 1)
