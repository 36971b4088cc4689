use Rattle.j39_node.proofs.Common.{◌<◌, ◌≡◌, drop, earliest, IfSome, map, sooner}
use Rattle.std.specs.Prelude.{◌^◌}
use Rattle.j39_node.specs.Boxes.{in_box}
use Rattle.j39_node.proofs.hearing.Hearing.earliest.Given as goal

-- the soonest so far, and of the rest
abbrev pub invariant-loop-heard : goal.invariant-loop-heard
invariant-loop-heard l =
    (sooner l.found (earliest (drop l.heard-index (map in_box l.self.current.items))) ≡ earliest (map in_box l.self.current.items))
    × IfSome l.found (λ n. n < 2 ^ 60)
