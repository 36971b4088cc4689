-- There are codes.
use Rattle.j39_fault_reports.proofs.Common.{◌≡◌, ◌∙◌, true, false, map, sym, eq-eqb, codes_by, stamp_micros}
use Rattle.j39_fault_reports.specs.CurrentPlaces.{standing_record}
use Rattle.j39_fault_reports.proofs.StandingLemmas.{by_some}
use Rattle.j39_fault_reports.proofs.current_faults.standing.next_standings.Goals as goal

pub returns-else-is_empty : goal.returns-else-is_empty
returns-else-is_empty g c =
    by_some (map standing_record c.args.before.now) (stamp_micros c.args.stamp) c.args.version c.args.payload.now (codes_by c.args.version c.args.payload.now) _
    (λ none. (let no : true ≡ false = sym (c.is_empty.ensures ∙ eq-eqb _ 0 none) ∙ c.if-is_empty.false in cc)) c.of_codes-standings.ensures
