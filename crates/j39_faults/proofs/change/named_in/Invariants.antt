use Rattle.std.proofs.Common.{◌≡◌, map}
use Rattle.j39_faults.specs.Changes.{named_in}
use Rattle.j39_faults.specs.Conversions.{code_by, codes_by}
use Rattle.j39_faults.specs.CodesLeft.{codes_left}
use Rattle.j39_faults.proofs.change.named_in.Given as goal

-- none so far names it
abbrev pub invariant-loop-one : goal.invariant-loop-one
invariant-loop-one l =
    named_in (codes_by l.version l.payload) l.code ≡ named_in (map (code_by l.version) (codes_left l.one-iterator)) l.code
