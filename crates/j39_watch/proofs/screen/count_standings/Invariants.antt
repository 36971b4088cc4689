use Rattle.j39_watch.proofs.Common.{◌≡◌, length, stamp_micros, capped, holder_of, naming_of}
use Rattle.j39_watch.proofs.ScreenLemmas.{lines_below}
use Rattle.j39_fault_reports.specs.CurrentPlaces.{standing_record}
use Rattle.j39_fault_reports.specs.CurrentSoFar.{now_shown}
use Rattle.j39_fault_reports.specs.FaultsNow.{named}
use Rattle.j39_watch.specs.WatchSoFar.{fault_lines}
use Rattle.j39_watch.proofs.screen.count_standings.Given as goal

-- the lines so far are counted
abbrev pub invariant-loop-standing : goal.invariant-loop-standing
invariant-loop-standing l =
    l.count ≡ capped (length (lines_below (λ s. fault_lines (naming_of l.view.naming) (holder_of l.view.listener.now) (stamp_micros l.view.now) (named (now_shown l.address l.last (standing_record s)))) l.standings l.standing-index))
