use Rattle.std.proofs.Common.{◌≡◌, length, map, take}
use Rattle.j39_c.specs.Faults.{code_from}
use Rattle.j39_c.proofs.faults.fill_codes.Given as goal

-- the codes so far
abbrev pub invariant-loop-place : goal.invariant-loop-place
invariant-loop-place l =
    (take l.place l.codes ≡ map code_from (take l.place l.faults)) × (length l.codes ≡ length l.initial.codes)
