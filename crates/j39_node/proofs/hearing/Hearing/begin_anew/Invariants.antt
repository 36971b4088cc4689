use Rattle.j39_node.proofs.Common.{◌+◌, ◌≡◌, length}
use Rattle.j39_node.proofs.hearing.Hearing.begin_anew.Given as goal

abbrev pub invariant-loop-heard : goal.invariant-loop-heard
invariant-loop-heard l =
    (length l.self.current.items + length l.self.free.items ≡ length l.fn.self.current.items + length l.fn.self.free.items)
    × (l.self.whole ≡ l.fn.self.whole)

abbrev pub decreases-loop-heard : goal.decreases-loop-heard
decreases-loop-heard l = length l.self.current.items
