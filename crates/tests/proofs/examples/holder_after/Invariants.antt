use Rattle.std.proofs.Common.{take}
use Rattle.j39_address.specs.Claims.{Knows}
use Rattle.tests.proofs.examples.holder_after.Given as goal

-- the frames so far are known
abbrev pub invariant-loop-frame : goal.invariant-loop-frame
invariant-loop-frame l = Knows l.claims (take l.frame-index l.frames)
