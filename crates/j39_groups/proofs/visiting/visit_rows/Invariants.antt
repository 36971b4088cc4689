use Rattle.std.proofs.Common.{take}
use Rattle.std.specs.List.{flat_map}
use Rattle.j39_groups.specs.Visits.{Takes, row_sightings}
use Rattle.j39_groups.proofs.visiting.visit_rows.Given as goal

-- the readings of the rows so far were taken
abbrev pub invariant-loop-row : goal.invariant-loop-row
invariant-loop-row g l = Takes g.V.ReadingVisitor.has_taken l.initial.visitor l.initial.medium l.visitor l.medium (flat_map (row_sightings l.bytes) (take l.row-index l.rows))
