use Rattle.j39_watch.proofs.Common.{◌≡◌, length, stamp_micros, capped, holder_of, naming_of}
use Rattle.j39_watch.specs.WatchSoFar.{faults_of_places}
use Rattle.j39_watch.proofs.screen.count_faults.Given as goal

-- the lines of the addresses so far are counted
abbrev pub invariant-loop-address : goal.invariant-loop-address
invariant-loop-address l =
    l.count ≡ capped (length (faults_of_places (naming_of l.view.naming) (holder_of l.view.listener.now) (stamp_micros l.view.now) l.places l.address))
