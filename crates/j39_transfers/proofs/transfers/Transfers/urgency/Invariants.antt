use Rattle.j39_transfers.proofs.Common.{◌≡◌, drop, in_box, map, urgency, sooner, stamp_micros}
use Rattle.j39_transfers.proofs.transfers.Transfers.urgency.Given as goal

-- the soonest so far, and of the rest
abbrev pub invariant-loop-running : goal.invariant-loop-running
invariant-loop-running l = sooner l.found (urgency (stamp_micros l.now) (map in_box (drop l.running-index l.self.current.items))) ≡ urgency (stamp_micros l.now) (map in_box l.self.current.items)
