use Rattle.j39_address.specs.Claim.{claim_of}
use Rattle.j39_node.specs.History.{of_other}
use Rattle.j39_node.specs.Reception.{holder}
use Rattle.j39_net.proofs.DoubledLemmas.{all_twice, held_twice, stays}
use Rattle.j39_net.proofs.laws.doubled.Goals as goal

pub returns-clause-holder : goal.returns-clause-holder
returns-clause-holder c w H at now a f = held_twice a (of_other w (claim_of f)) (holder w H a)

pub returns-clause-broadcast : goal.returns-clause-broadcast
returns-clause-broadcast c w H at now f = all_twice w f H at now

pub returns-clause-stays : goal.returns-clause-stays
returns-clause-stays c w H at f = stays w f H at
