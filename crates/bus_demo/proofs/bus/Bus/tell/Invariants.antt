use Rattle.std.proofs.Common.{◌≡◌}
use Rattle.bus_demo.specs.Playing.{AreNotedBelow, HappenedBelow, IsToldAt}
use Rattle.bus_demo.proofs.bus.Bus.tell.Given as goal

-- the players so far were told, and what they heard was noted
abbrev pub invariant-loop-place : goal.invariant-loop-place
invariant-loop-place l = HappenedBelow (λ k. IsToldAt k l.sender l.frame) l.place l.initial.self.controllers.items l.self.controllers.items
    × AreNotedBelow l.place l.sender l.frame l.initial.self.controllers.items l.initial.self.book l.self.book
    × (l.self.now ≡ l.initial.self.now) × (l.self.frames ≡ l.initial.self.frames) × (l.self.lose ≡ l.initial.self.lose)
