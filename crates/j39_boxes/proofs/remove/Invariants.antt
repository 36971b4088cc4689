use Rattle.std.proofs.Common.{◌≡◌, ◌+◌, ◌-◌, ◌≤◌, length}
use Rattle.std.specs.Vec.{vec_capacity}
use Rattle.j39_boxes.proofs.CarryLemmas.{carried}
use Rattle.j39_boxes.proofs.remove.Given as goal

-- the box is behind all that it has changed places with
abbrev pub invariant-loop-behind : goal.invariant-loop-behind
invariant-loop-behind g l = record {
  carried : l.boxes.items ≡ carried l.fn.place (l.behind - (l.fn.place + 1)) l.fn.boxes.items;
  begun : l.fn.place + 1 ≤ l.behind;
  length : length l.boxes.items ≡ length l.fn.boxes.items;
  capacity : vec_capacity l.boxes ≡ vec_capacity l.fn.boxes;
}
