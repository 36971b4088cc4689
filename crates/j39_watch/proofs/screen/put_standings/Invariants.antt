use Rattle.j39_watch.proofs.Common.{◌≡◌, ◌-◌, Ok, length, stamp_micros, Puts, turn, holder_of, naming_of}
use Rattle.j39_watch.proofs.ScreenLemmas.{lines_below}
use Rattle.j39_fault_reports.specs.CurrentPlaces.{standing_record}
use Rattle.j39_fault_reports.specs.CurrentSoFar.{now_shown}
use Rattle.j39_fault_reports.specs.FaultsNow.{named}
use Rattle.j39_watch.specs.WatchSoFar.{fault_lines, limited}
use Rattle.j39_watch.specs.NotesSoFar.{size_of}
use Rattle.j39_watch.proofs.screen.put_standings.Given as goal

-- the lines so far are written, and no fault came
abbrev pub invariant-loop-standing : goal.invariant-loop-standing
invariant-loop-standing g l =
    (l.left ≡ l.room - length (lines_below (λ s. fault_lines (naming_of l.view.naming) (holder_of l.view.listener.now) (stamp_micros l.view.now) (named (now_shown l.address l.last (standing_record s)))) l.standings l.standing-index))
    × Puts {T = Unit} {E = Unit} (limited (size_of l.view.size) l.room (lines_below (λ s. fault_lines (naming_of l.view.naming) (holder_of l.view.listener.now) (stamp_micros l.view.now) (named (now_shown l.address l.last (standing_record s)))) l.standings l.standing-index)) (Ok tt)
    (turn g.W.Sink.written g.W.Sink.has_failed l.initial.sink l.sink)
