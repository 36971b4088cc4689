use Rattle.j39_watch.proofs.Common.{◌≡◌, ◌-◌, Ok, length, stamp_micros, Puts, turn, holder_of, naming_of}
use Rattle.j39_watch.specs.WatchSoFar.{faults_of_places, limited}
use Rattle.j39_watch.specs.NotesSoFar.{size_of}
use Rattle.j39_watch.proofs.screen.put_faults.Given as goal

-- the lines of the addresses so far are written, and no fault came
abbrev pub invariant-loop-address : goal.invariant-loop-address
invariant-loop-address g l =
    (l.left ≡ l.room - length (faults_of_places (naming_of l.view.naming) (holder_of l.view.listener.now) (stamp_micros l.view.now) l.places l.address))
    × Puts {T = Unit} {E = Unit} (limited (size_of l.view.size) l.room (faults_of_places (naming_of l.view.naming) (holder_of l.view.listener.now) (stamp_micros l.view.now) l.places l.address)) (Ok tt)
    (turn g.W.Sink.written g.W.Sink.has_failed l.initial.sink l.sink)
