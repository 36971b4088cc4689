use Rattle.std.proofs.Common.{map, take}
use Rattle.j39_groups.specs.Models.{reading_of}
use Rattle.j39_groups.specs.Sightings.{told}
use Rattle.j39_groups.specs.Visits.{Takes}
use Rattle.j39_groups.proofs.visiting.visit_found.Given as goal

-- the readings so far were taken
abbrev pub invariant-loop-reading : goal.invariant-loop-reading
invariant-loop-reading g l = Takes g.V.ReadingVisitor.has_taken l.initial.visitor l.initial.medium l.visitor l.medium (map told (map reading_of (take l.reading-index l.found)))
