use Rattle.j39_transport.proofs.broadcast.Broadcast.new.Goals as goal

pub returns-clause-sent : goal.returns-clause-sent
returns-clause-sent c = c.new.ensures c.args.cut
