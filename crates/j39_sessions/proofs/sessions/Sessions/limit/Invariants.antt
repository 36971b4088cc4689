use Rattle.j39_sessions.proofs.Common.{◌<◌, ◌≡◌, drop, earliest, IfSome, in_box, map, sooner}
use Rattle.std.specs.Prelude.{◌^◌}
use Rattle.j39_sessions.proofs.sessions.Sessions.limit.Given as goal

-- the soonest so far, and of the rest
abbrev pub invariant-loop-seat : goal.invariant-loop-seat
invariant-loop-seat l =
    (sooner l.found (earliest (drop l.seat-index (map in_box l.self.current.items))) ≡ earliest (map in_box l.self.current.items))
    × IfSome l.found (λ n. n < 2 ^ 54)
