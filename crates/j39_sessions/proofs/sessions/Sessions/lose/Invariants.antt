use Rattle.j39_sessions.proofs.Common.{◌+◌, ◌≡◌, length}
use Rattle.j39_sessions.proofs.sessions.Sessions.lose.Given as goal

abbrev pub invariant-loop-seat : goal.invariant-loop-seat
invariant-loop-seat l =
    (length l.self.current.items + length l.self.free.items ≡ length l.fn.self.current.items + length l.fn.self.free.items)
    × (l.self.whole ≡ l.fn.self.whole) × (l.self.own ≡ l.fn.self.own) × (l.self.most ≡ l.fn.self.most)

abbrev pub decreases-loop-seat : goal.decreases-loop-seat
decreases-loop-seat l = length l.self.current.items
