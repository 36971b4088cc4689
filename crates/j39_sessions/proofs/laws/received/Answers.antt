use Rattle.j39_sessions.proofs.BringLemmas.{received}
use Rattle.j39_sessions.proofs.laws.received.Goals as goal

pub returns : goal.returns
returns c = λ own most boxes E later start size n asked pgn last now name rts f joined part m.
    received own most boxes E later start size n asked pgn last now name rts f joined part m
