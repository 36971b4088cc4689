use Rattle.j39_node.proofs.Common.{◌<◌, ◌≢◌, ◌≤◌, holder_in, None, ℕ}
use Rattle.j39_node.proofs.controller.Controller.free_address.Given as goal

-- somebody holds each address so far
abbrev pub invariant-loop-address : goal.invariant-loop-address
invariant-loop-address l = (b : ℕ) → 128 ≤ b → b < l.address → holder_in l.self.holders b ≢ None
