use Rattle.std.proofs.Common.{arith}
use Rattle.j39_io.proofs.DeviceLemmas.{on_err}
use Rattle.j39_survey.proofs.SeenNodeLemmas.{seen_close, seen_stop}
use Rattle.j39_survey.proofs.node_lists.seen.SeenListAccount.close.Goals as goal

pub returns-in_err-lines-clause-stops : goal.returns-in_err-lines-clause-stops
returns-in_err-lines-clause-stops g c = on_err c.from_residual.result _ (λ subject. seen_stop subject c.args.self.now _ _ c.in_err-lines.ensures.puts.front)

pub returns-clause-closes : goal.returns-clause-closes
returns-clause-closes g c = λ subject. seen_close subject c.args.self.now c.in_ok-lines.lines _ _ (omega arith) c.in_ok-lines.ensures.count c.in_ok-lines.ensures.puts.written
