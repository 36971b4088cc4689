use Rattle.j39_reports.proofs.Common.{refl, which_of, nothing}
use Rattle.j39_reports.proofs.summaries.account.summary.Goals as goal

pub returns-in-Line-clause-ran : goal.returns-in-Line-clause-ran
returns-in-Line-clause-ran g c = rw c.in-Line.is (rw c.in-Line.is at
    (c.run_over.ensures.ran (record { form = c.args.summed.format; which = which_of c.args.summed.wanted.filter; rows = c.args.summed.wanted.groups.now }) nothing (λ name. c.new-account.ensures) refl))

pub returns-in-Record-clause-ran : goal.returns-in-Record-clause-ran
returns-in-Record-clause-ran g c = rw c.in-Record.is (rw c.in-Record.is at
    (c.run_headed.ensures.ran (record { form = c.args.summed.format; which = which_of c.args.summed.wanted.filter; rows = c.args.summed.wanted.groups.now }) nothing (λ name. c.new-account.ensures) refl))

pub returns-in-Object-clause-ran : goal.returns-in-Object-clause-ran
returns-in-Object-clause-ran g c = rw c.in-Object.is (rw c.in-Object.is at
    (c.run_over-in-Object.ensures.ran (record { form = c.args.summed.format; which = which_of c.args.summed.wanted.filter; rows = c.args.summed.wanted.groups.now }) nothing (λ name. c.new-account.ensures) refl))
