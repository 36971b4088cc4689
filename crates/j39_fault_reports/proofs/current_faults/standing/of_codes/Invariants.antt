use Rattle.j39_fault_reports.proofs.Common.{map, codes_left, stamp_micros}
use Rattle.j39_fault_reports.specs.CurrentPlaces.{standing_record}
use Rattle.j39_fault_reports.proofs.StandingLemmas.{HaveStood}
use Rattle.j39_fault_reports.proofs.current_faults.standing.of_codes.Given as goal

-- those of the codes before those that are left
abbrev pub invariant-loop-code : goal.invariant-loop-code
invariant-loop-code g l =
    HaveStood (map standing_record l.before) (stamp_micros l.stamp) l.version l.payload (codes_left l.code-iterator) l.standings.items
