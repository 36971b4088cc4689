use Rattle.j39_sessions.proofs.Common.{◌∙◌, sym, stamp_micros}
use Rattle.j39_sessions.proofs.StepLemmas.{stray_heard}
use Rattle.j39_sessions.proofs.seat.Seat.hear.Goals as goal

pub returns-then-strays-clause-heard : goal.returns-then-strays-clause-heard
returns-then-strays-clause-heard c =
    stray_heard c.args.self.now.receiver c.args.most c.args.frame.now (stamp_micros c.args.now) c.args.self.now.boxed (sym c.strays.ensures ∙ c.if-strays.true)
