use Rattle.std.proofs.Common.{◌≡◌, drop}
use Rattle.j39_faults.specs.Conversions.{version_for}
use Rattle.j39_faults.proofs.conversion.version_for.Given as goal

-- none so far is for the controller
abbrev pub invariant-loop-conversion : goal.invariant-loop-conversion
invariant-loop-conversion l =
    version_for l.conversions l.name ≡ version_for (drop l.conversion-index l.conversions) l.name
