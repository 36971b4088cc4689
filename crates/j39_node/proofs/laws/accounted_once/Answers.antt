use Rattle.j39_node.proofs.AnswerCases.{send_accepts}
use Rattle.j39_node.proofs.LawLemmas as law
use Rattle.j39_node.proofs.laws.accounted_once.Goals as goal

pub returns : goal.returns
returns c = record { accepted = λ w H c now k d is. (send_accepts w H now k d is.answered.1).3; told = law.in_turn; all = law.all_told }
