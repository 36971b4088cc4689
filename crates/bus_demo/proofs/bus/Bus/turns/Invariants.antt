use Rattle.std.proofs.Common.{take}
use Rattle.j39_frame.specs.Stamp.{stamp_micros}
use Rattle.bus_demo.specs.Playing.{HadTurn, HappenedBelow}
use Rattle.bus_demo.specs.Turning.{AreAsked, KeepsButTurned}
use Rattle.bus_demo.proofs.bus.Bus.turns.Given as goal

-- the players so far had their turns and were asked
abbrev pub invariant-loop-place : goal.invariant-loop-place
invariant-loop-place l = record {
  turned : HappenedBelow (λ _. HadTurn (stamp_micros l.fn.self.now)) l.place l.fn.self.controllers.items l.self.controllers.items;
  asked : AreAsked (stamp_micros l.fn.self.now) (take l.place l.self.controllers.items) l.self.wishes.items;
  rest : KeepsButTurned l.fn.self l.self;
}
