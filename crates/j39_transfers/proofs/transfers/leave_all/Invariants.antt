use Rattle.j39_transfers.proofs.Common.{◌≡◌, ◌++◌, drop, holder_in, leaves_in, stamp_micros, in_box, map, take}
use Rattle.j39_transfers.proofs.transfers.leave_all.Given as goal

-- those before this one are changed, and those from here on are as they were
abbrev pub invariant-loop-running : goal.invariant-loop-running
invariant-loop-running l = map in_box l.current ≡ map (leaves_in l.gone (holder_in l.holders) (stamp_micros l.now)) (map in_box (take l.running-index l.initial.current)) ++ map in_box (drop l.running-index l.initial.current)
