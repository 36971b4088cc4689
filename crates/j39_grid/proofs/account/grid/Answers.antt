-- In each form it is the account's run.
use Rattle.std.proofs.Common.{refl}
use Rattle.j39_listen.specs.Output.{nothing}
use Rattle.j39_grid.specs.GridModels.{subject_of}
use Rattle.j39_grid.proofs.account.grid.Goals as goal

pub returns-in-Line-clause-ran : goal.returns-in-Line-clause-ran
returns-in-Line-clause-ran g c =
    rw c.in-Line.is (rw c.in-Line.is at (c.run_over.ensures.ran (subject_of c.args.gridded) nothing (λ name. c.new-account.ensures) refl))

pub returns-in-Record-clause-ran : goal.returns-in-Record-clause-ran
returns-in-Record-clause-ran g c =
    rw c.in-Record.is (rw c.in-Record.is at (c.run_named.ensures.ran (subject_of c.args.gridded) c.new-account.ensures))

pub returns-in-Object-clause-ran : goal.returns-in-Object-clause-ran
returns-in-Object-clause-ran g c =
    rw c.in-Object.is (rw c.in-Object.is at (c.run_over-in-Object.ensures.ran (subject_of c.args.gridded) nothing (λ name. c.new-account.ensures) refl))
