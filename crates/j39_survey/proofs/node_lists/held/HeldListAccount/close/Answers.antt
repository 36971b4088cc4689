use Rattle.std.proofs.Common.{arith}
use Rattle.j39_io.proofs.DeviceLemmas.{on_err}
use Rattle.j39_survey.proofs.NodeLemmas.{nodes_close, nodes_stop}
use Rattle.j39_survey.proofs.node_lists.held.HeldListAccount.close.Goals as goal

pub returns-in_err-lines-clause-stops : goal.returns-in_err-lines-clause-stops
returns-in_err-lines-clause-stops g c = on_err c.from_residual.result _ (λ from. nodes_stop from c.args.self.now _ _ c.in_err-lines.ensures.puts.front)

pub returns-clause-closes : goal.returns-clause-closes
returns-clause-closes g c = λ from. nodes_close from c.args.self.now c.in_ok-lines.lines _ _ (omega arith) c.in_ok-lines.ensures.count c.in_ok-lines.ensures.puts.written
