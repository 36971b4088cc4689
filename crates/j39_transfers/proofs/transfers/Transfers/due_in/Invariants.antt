use Rattle.j39_transfers.proofs.Common.{◌≡◌, drop, in_box, map, soonest, sooner, stamp_micros}
use Rattle.j39_transfers.proofs.transfers.Transfers.due_in.Given as goal

-- the soonest so far, and of the rest
abbrev pub invariant-loop-running : goal.invariant-loop-running
invariant-loop-running l = sooner l.found (soonest (stamp_micros l.now) (map in_box (drop l.running-index l.self.current.items))) ≡ soonest (stamp_micros l.now) (map in_box l.self.current.items)
