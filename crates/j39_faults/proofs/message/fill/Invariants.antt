use Rattle.std.proofs.Common.{◌≡◌, ◌-◌, length}
use Rattle.j39_faults.specs.FaultsMessage.{filled}
use Rattle.j39_faults.proofs.message.fill.Given as goal

-- what is appended so far fills it too
abbrev pub invariant-loop-message : goal.invariant-loop-message
invariant-loop-message l = filled l.message.items ≡ filled l.initial.message.items

abbrev pub decreases-loop-message : goal.decreases-loop-message
decreases-loop-message l = 8 - length l.message.items
