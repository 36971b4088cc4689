use Rattle.j39_sessions.proofs.Common.{◌+◌, ◌≡◌, filter, holder_in, in_box, is_left, length, map, not, said_by, unsaid}
use Rattle.j39_sessions.proofs.sessions.Sessions.leave.Given as goal

-- those that stay, and what is said when the others are gone, are the same
abbrev pub invariant-loop-place : goal.invariant-loop-place
invariant-loop-place l =
    (filter (λ x. not (is_left l.fn.gone (holder_in l.fn.holders) x)) (map in_box l.self.current.items)
    ≡ filter (λ x. not (is_left l.fn.gone (holder_in l.fn.holders) x)) (map in_box l.fn.self.current.items))
    × (unsaid (filter (is_left l.fn.gone (holder_in l.fn.holders)) (map in_box l.self.current.items)) (map said_by l.self.replies.items)
    ≡ unsaid (filter (is_left l.fn.gone (holder_in l.fn.holders)) (map in_box l.fn.self.current.items)) (map said_by l.fn.self.replies.items))
    × (length l.self.current.items + length l.self.free.items ≡ length l.fn.self.current.items + length l.fn.self.free.items)
    × (l.self.whole ≡ l.fn.self.whole) × (l.self.own ≡ l.fn.self.own) × (l.self.most ≡ l.fn.self.most)

abbrev pub decreases-loop-place : goal.decreases-loop-place
decreases-loop-place l = length l.self.current.items
