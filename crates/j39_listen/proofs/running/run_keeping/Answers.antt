use Rattle.j39_listen.proofs.PieceLemmas.{on_ok_from}
use Rattle.j39_listen.proofs.running.run_keeping.Goals as goal

pub returns-clause-ran : goal.returns-clause-ran
returns-clause-ran g c = λ subject output met none. c.read_pieces-ran.ensures.ran subject c.args.bus (c.new-pieces.ensures _ subject output met none)

pub returns-clause-met : goal.returns-clause-met
returns-clause-met g c =
    rw c.into_account.ensures (on_ok_from c.read_pieces-ran.result _ _
    (λ met subject output is none. met subject c.args.bus (c.new-pieces.ensures _ subject output is none)) c.read_pieces-ran.ensures.met)

pub returns-clause-kept_up : goal.returns-clause-kept_up
returns-clause-kept_up g c = λ read subject output met none. c.read_pieces-ran.ensures.kept_up read subject c.args.bus (c.new-pieces.ensures _ subject output met none)
