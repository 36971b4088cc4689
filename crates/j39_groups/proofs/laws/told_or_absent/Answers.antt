use Rattle.j39_groups.proofs.SightingLemmas.{absent_are, told_are}
use Rattle.j39_groups.proofs.laws.told_or_absent.Goals as goal

pub returns-clause-told : goal.returns-clause-told
returns-clause-told c = told_are

pub returns-clause-absent : goal.returns-clause-absent
returns-clause-absent c = absent_are
