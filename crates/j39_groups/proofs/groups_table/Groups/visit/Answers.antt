-- The rows of the group.
use Rattle.j39_groups.proofs.ReadLemmas.{sightings_of_group}
use Rattle.j39_groups.proofs.groups_table.Groups.visit.Goals as goal

pub returns-clause-taken : goal.returns-clause-taken
returns-clause-taken g c =
    rw (← c.raw-pgn.ensures.value, ← sightings_of_group c.rows_for.result.now c.args.self.now c.raw-pgn.result c.args.bytes.now c.rows_for.ensures.rows)
    c.visit_rows.ensures.taken

pub returns-clause-stopped : goal.returns-clause-stopped
returns-clause-stopped g c =
    rw (← c.raw-pgn.ensures.value, ← sightings_of_group c.rows_for.result.now c.args.self.now c.raw-pgn.result c.args.bytes.now c.rows_for.ensures.rows)
    c.visit_rows.ensures.stopped
