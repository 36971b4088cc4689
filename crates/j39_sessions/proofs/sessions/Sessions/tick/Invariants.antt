use Rattle.j39_sessions.proofs.Common.{◌+◌, ◌++◌, ◌≡◌, ◌≤◌, drop, in_box, length, map, replies_ticked, said_by, sessions_ticked, stamp_micros, take}
use Rattle.std.specs.Prelude.{◌-◌}
use Rattle.j39_sessions.proofs.sessions.Sessions.tick.Given as goal

-- those at the front are to be told yet; all, once they are
abbrev pub invariant-loop : goal.invariant-loop
invariant-loop l =
    (l.counter ≤ l.count) × (l.count - l.counter ≤ length l.self.current.items)
    × (drop (l.count - l.counter) (map in_box l.self.current.items)
    ++ sessions_ticked l.fn.self.own (stamp_micros l.fn.now) (take (l.count - l.counter) (map in_box l.self.current.items))
    ≡ sessions_ticked l.fn.self.own (stamp_micros l.fn.now) (map in_box l.fn.self.current.items))
    × (replies_ticked l.fn.self.own (stamp_micros l.fn.now) (take (l.count - l.counter) (map in_box l.self.current.items)) (map said_by l.self.replies.items)
    ≡ replies_ticked l.fn.self.own (stamp_micros l.fn.now) (map in_box l.fn.self.current.items) (map said_by l.fn.self.replies.items))
    × (length l.self.current.items + length l.self.free.items ≡ length l.fn.self.current.items + length l.fn.self.free.items)
    × (l.self.whole ≡ l.fn.self.whole) × (l.self.own ≡ l.fn.self.own) × (l.self.most ≡ l.fn.self.most)
