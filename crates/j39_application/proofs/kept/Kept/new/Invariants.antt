use Rattle.std.proofs.Common.{◌≡◌, ◌≤◌, length}
use Rattle.std.specs.Vec.{vec_capacity}
use Rattle.j39_application.proofs.kept.Kept.new.Given as goal

abbrev pub invariant-loop : goal.invariant-loop
invariant-loop g l = (l.count ≡ l.boxes) × (length l.free.items ≡ l.counter) × (l.count ≤ vec_capacity l.free)
