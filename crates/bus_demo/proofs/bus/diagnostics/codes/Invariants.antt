use Rattle.std.proofs.Common.{◌≡◌, take}
use Rattle.bus_demo.specs.Faults.{codes_at}
use Rattle.bus_demo.proofs.bus.diagnostics.codes.Given as goal

-- the codes of the faults so far
abbrev pub invariant-loop-fault : goal.invariant-loop-fault
invariant-loop-fault l = l.codes.items ≡ codes_at (take l.fault-index l.faults) l.micros
