use Rattle.j39_node.proofs.Common.{◌+◌, ◌≡◌, holder_in, length, map, stamp_micros, stay}
use Rattle.j39_node.specs.Boxes.{in_box}
use Rattle.j39_node.proofs.hearing.Hearing.leave.Given as goal

-- those that stay are the same
abbrev pub invariant-loop-place : goal.invariant-loop-place
invariant-loop-place l =
    (stay l.fn.gone (holder_in l.fn.holders) (stamp_micros l.fn.time) (map in_box l.self.current.items)
    ≡ stay l.fn.gone (holder_in l.fn.holders) (stamp_micros l.fn.time) (map in_box l.fn.self.current.items))
    × (length l.self.current.items + length l.self.free.items ≡ length l.fn.self.current.items + length l.fn.self.free.items)
    × (l.self.missed ≡ l.fn.self.missed) × (l.self.whole ≡ l.fn.self.whole)

abbrev pub decreases-loop-place : goal.decreases-loop-place
decreases-loop-place l = length l.self.current.items
