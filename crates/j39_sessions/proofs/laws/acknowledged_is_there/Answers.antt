use Rattle.j39_sessions.proofs.Common.{after}
use Rattle.j39_sessions.proofs.SourceLemmas.{made_tells}
use Rattle.j39_sessions.proofs.laws.acknowledged_is_there.Goals as goal

pub returns : goal.returns
returns c = record {
  whole = λ own most boxes now f E. (made_tells (after own most boxes E) f now).0;
  only = λ own most boxes now f E. (made_tells (after own most boxes E) f now).1;
}
