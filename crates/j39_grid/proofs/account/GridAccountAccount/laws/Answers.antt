use Rattle.j39_grid.proofs.AccountLemmas.{grid_one, grid_starts}
use Rattle.j39_grid.proofs.account.GridAccountAccount.laws.Goals as goal

pub returns : goal.returns
returns c = record { begins = grid_starts; one = grid_one }
