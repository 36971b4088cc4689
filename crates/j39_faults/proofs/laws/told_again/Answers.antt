use Rattle.j39_faults.proofs.MessageLemmas.{code_again, lamps_again}
use Rattle.j39_faults.proofs.laws.told_again.Goals as goal

pub returns-clause-code : goal.returns-clause-code
returns-clause-code c = code_again

pub returns-clause-lamps : goal.returns-clause-lamps
returns-clause-lamps c = lamps_again
