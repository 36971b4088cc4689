use Rattle.j39_sessions.proofs.HandedLemmas.{was_handed}
use Rattle.j39_sessions.proofs.laws.was_heard.Goals as goal

pub returns : goal.returns
returns c = λ own most boxes now name f E m. was_handed own most boxes now name f E m
