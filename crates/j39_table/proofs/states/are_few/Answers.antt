-- There is one state more than commas.
use Rattle.j39_table.proofs.StateLemmas.{few_commas}
use Rattle.j39_table.proofs.states.are_few.Goals as goal

pub returns : goal.returns
returns c = few_commas c.commas_in.result c.args.states.now c.commas_in.ensures
