use Rattle.j39_node.proofs.AskLaws.{request_sent, waits}
use Rattle.j39_node.proofs.AskLaws as law
use Rattle.j39_node.proofs.ask_laws.request_means.Goals as goal

pub returns : goal.returns
returns c = record { frame = λ w H c i q is g. request_sent w H is.answered i q g; once = law.taken_once; since = λ w H c q is o t. waits w H is.answered q o t }
