use Rattle.j39_sessions.proofs.LawLemmas.{kept_heard}
use Rattle.j39_sessions.proofs.laws.accounts_run.Goals as goal

pub returns-clause-heard : goal.returns-clause-heard
returns-clause-heard c = λ own most boxes now name f E x. kept_heard own most boxes now name f E x
