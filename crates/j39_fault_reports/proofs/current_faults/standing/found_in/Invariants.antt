use Rattle.std.proofs.Common.{◌≡◌, drop, map}
use Rattle.j39_fault_reports.specs.CurrentPlaces.{found_in, standing_record}
use Rattle.j39_fault_reports.proofs.current_faults.standing.found_in.Given as goal

-- none so far is of the code
abbrev pub invariant-loop-one : goal.invariant-loop-one
invariant-loop-one l =
    found_in (map standing_record l.before) l.code ≡ found_in (map standing_record (drop l.one-index l.before)) l.code
