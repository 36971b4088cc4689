use Rattle.std.proofs.Common.{◌≡◌, drop}
use Rattle.j39_transfers.specs.Transfers.{sooner}
use Rattle.j39_application.specs.Kept.{soonest, views}
use Rattle.j39_application.proofs.kept.Kept.due_in.Given as goal

-- the soonest so far, and of the rest
abbrev pub invariant-loop-waiting : goal.invariant-loop-waiting
invariant-loop-waiting g l =
    let w = g.T.Waits in
    sooner l.found (soonest w.time_left (views w.shown (drop l.waiting-index l.self.current.items))) ≡ soonest w.time_left (views w.shown l.self.current.items)
