use Rattle.std.proofs.Common.{ap, refl}
use Rattle.j39_grid.specs.GridModels.{asked_of}
use Rattle.j39_grid.proofs.AccountLemmas.{grid_new}
use Rattle.j39_grid.proofs.account.GridAccount.new.Goals as goal

pub returns : goal.returns
returns c = grid_new _ _ refl (ap asked_of c.new-3.ensures.asked) c.new.ensures c.new-2.ensures c.new-3.ensures.rows refl
