-- Readings are made of a group's rows; a group is reported where these are not none.
use Rattle.j39_groups.proofs.RestrictedLemmas.{same_readings, same_reported}
use Rattle.j39_groups.proofs.laws.groups_alone_count.Goals as goal

pub returns-clause-readings : goal.returns-clause-readings
returns-clause-readings c = same_readings

pub returns-clause-reported : goal.returns-clause-reported
returns-clause-reported c = same_reported
