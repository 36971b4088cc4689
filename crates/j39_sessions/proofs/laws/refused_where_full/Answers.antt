use Rattle.j39_sessions.proofs.HandedLemmas.{refuses}
use Rattle.j39_sessions.proofs.laws.refused_where_full.Goals as goal

pub returns : goal.returns
returns c = λ own most boxes now size packets asked pgn name f E. refuses own most boxes now size packets asked pgn name f E
