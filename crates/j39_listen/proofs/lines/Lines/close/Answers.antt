-- The account is closed, and what it wrote is passed on.
use Rattle.j39_io.proofs.DeviceLemmas.{on_err}
use Rattle.j39_listen.proofs.RunLemmas.{closes_all, writes_kept}
use Rattle.j39_listen.proofs.StopLemmas.{some_of_all, stops_closing}
use Rattle.j39_listen.proofs.lines.Lines.close.Goals as goal

pub returns-in_err-made-clause-stops : goal.returns-in_err-made-clause-stops
returns-in_err-made-clause-stops g c = on_err c.from_residual.result _ (λ subject given spelled held h.
    stops_closing (g.A.Account.has_met subject) (g.A.Account.makes subject) given spelled c.args.self.now held _ _ h (c.in_err-made.ensures.stops subject))

pub returns-in_err-flush-clause-stops : goal.returns-in_err-flush-clause-stops
returns-in_err-flush-clause-stops g c = on_err c.from_residual-in_err-flush.result _ (λ subject given spelled held h.
    some_of_all (g.A.Account.makes subject) (c.laws.ensures.one subject) given spelled _ held _ _
    (closes_all (g.A.Account.has_met subject) (g.A.Account.makes subject) given spelled c.args.self.now c.in_ok-made.made held _ _ h (c.in_ok-made.ensures.closes subject)) c.in_err-flush.ensures.bytes)

pub returns-clause-closes : goal.returns-clause-closes
returns-clause-closes g c = λ subject given spelled held h.
    writes_kept (g.A.Account.makes subject) given spelled _ held _ _
    (closes_all (g.A.Account.has_met subject) (g.A.Account.makes subject) given spelled c.args.self.now c.in_ok-made.made held _ _ h (c.in_ok-made.ensures.closes subject)) c.in_ok-flush.ensures.bytes
