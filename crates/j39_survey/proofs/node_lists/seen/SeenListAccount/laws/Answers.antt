use Rattle.j39_survey.proofs.SeenNodeLemmas.{seen_begin, seen_nodes_one}
use Rattle.j39_survey.proofs.node_lists.seen.SeenListAccount.laws.Goals as goal

pub returns : goal.returns
returns c = record { begins = seen_begin; one = seen_nodes_one }
