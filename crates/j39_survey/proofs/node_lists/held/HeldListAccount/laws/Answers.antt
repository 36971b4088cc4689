use Rattle.j39_survey.proofs.NodeLemmas.{nodes_begin, nodes_one}
use Rattle.j39_survey.proofs.node_lists.held.HeldListAccount.laws.Goals as goal

pub returns : goal.returns
returns c = record { begins = nodes_begin; one = nodes_one }
