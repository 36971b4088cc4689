use Rattle.std.proofs.Common.{◌≡◌, map}
use Rattle.j39_faults.specs.Conversions.{code_by, codes_by}
use Rattle.j39_faults.specs.CodesLeft.{codes_left}
use Rattle.j39_faults.specs.Sameness.{same_codes}
use Rattle.j39_faults.proofs.sameness.same_codes.Given as goal

-- the codes so far are the same
abbrev pub invariant-loop-code : goal.invariant-loop-code
invariant-loop-code l =
    same_codes (codes_by l.version l.one) (codes_by l.version l.other)
    ≡ same_codes (map (code_by l.version) (codes_left l.code-iterator)) (map (code_by l.version) (codes_left l.others))
