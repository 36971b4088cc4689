-- Each reading of a row is of its parameter.
use Rattle.j39_groups.proofs.RestrictedLemmas.{restricted_readings, restricted_reported}
use Rattle.j39_groups.proofs.laws.restricted_reads_less.Goals as goal

pub returns-clause-readings : goal.returns-clause-readings
returns-clause-readings c = restricted_readings

pub returns-clause-reported : goal.returns-clause-reported
returns-clause-reported c = restricted_reported
