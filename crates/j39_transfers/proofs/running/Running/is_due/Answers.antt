use Rattle.j39_transfers.proofs.Common.{◌∙◌, ap, stamp_micros, sym, transfer_in}
use Rattle.j39_transfers.proofs.RunningLemmas.{due_now, is_zero}
use Rattle.j39_transfers.proofs.running.Running.is_due.Goals as goal

pub returns-in-Some : goal.returns-in-Some
returns-in-Some c = ap is_zero (sym c.in-Some.is ∙ c.due_in.ensures) ∙ due_now (stamp_micros c.args.now) (transfer_in c.args.self.now)

pub returns-in-None : goal.returns-in-None
returns-in-None c = ap is_zero (sym c.in-None.is ∙ c.due_in.ensures) ∙ due_now (stamp_micros c.args.now) (transfer_in c.args.self.now)
