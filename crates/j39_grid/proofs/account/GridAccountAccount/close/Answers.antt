-- The row of the last span, or a fault in it.
use Rattle.j39_io.proofs.DeviceLemmas.{on_err}
use Rattle.j39_grid.proofs.AccountLemmas.{grid_closes, grid_ends}
use Rattle.j39_grid.proofs.account.GridAccountAccount.close.Goals as goal

pub returns-in_err-put_last-clause-stops : goal.returns-in_err-put_last-clause-stops
returns-in_err-put_last-clause-stops g c =
    on_err c.from_residual.result _ (λ subject. grid_ends subject c.args.self.now _ _ c.in_err-put_last.ensures.front)

pub returns-clause-closes : goal.returns-clause-closes
returns-clause-closes g c = λ subject. grid_closes subject c.args.self.now c.lines_in_all.result _ _ c.lines_in_all.ensures c.in_ok-put_last.ensures.written
