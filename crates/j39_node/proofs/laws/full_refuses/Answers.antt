use Rattle.j39_node.proofs.ReceptionLaws as law
use Rattle.j39_node.proofs.laws.full_refuses.Goals as goal

pub returns : goal.returns
returns c = λ w H when f size count most pgn held said full. law.refuses_all w H when f size count most pgn held said full
