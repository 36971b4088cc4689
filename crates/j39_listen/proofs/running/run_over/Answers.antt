use Rattle.j39_listen.proofs.running.run_over.Goals as goal

pub returns-clause-ran : goal.returns-clause-ran
returns-clause-ran g c = λ subject output met none. c.read_pieces.ensures.ran subject c.args.bus (c.new-pieces.ensures _ subject output met none)

pub returns-clause-kept_up : goal.returns-clause-kept_up
returns-clause-kept_up g c = λ read subject output met none. c.read_pieces.ensures.kept_up read subject c.args.bus (c.new-pieces.ensures _ subject output met none)
