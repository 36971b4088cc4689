use Rattle.j39_address.proofs.SomeStepLemmas.{some_step}
use Rattle.j39_address.proofs.OneStepLemmas.{same_step}
use Rattle.j39_address.proofs.laws.one_step.Goals as goal

pub returns : goal.returns
returns c = record { some = some_step; same = same_step }
