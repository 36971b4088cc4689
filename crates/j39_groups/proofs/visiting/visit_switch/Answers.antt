-- What it says is the row's one value.
use Rattle.j39_groups.specs.Models.{row_record}
use Rattle.j39_groups.proofs.VisitLemmas.{sees_value}
use Rattle.j39_groups.proofs.visiting.visit_switch.Goals as goal

pub returns-in-Some-clause-taken : goal.returns-in-Some-clause-taken
returns-in-Some-clause-taken g c =
    rw (← sees_value c.args.bytes.now (row_record c.args.row.now) _ (rw c.in-Some.is at c.requires.read)) c.visit_said.ensures.taken

pub returns-in-Some-clause-stopped : goal.returns-in-Some-clause-stopped
returns-in-Some-clause-stopped g c =
    rw (← sees_value c.args.bytes.now (row_record c.args.row.now) _ (rw c.in-Some.is at c.requires.read)) c.visit_said.ensures.stopped
