use Rattle.j39_node.proofs.Common.{arith, refl}
use Rattle.j39_node.proofs.SinceLemmas as law
use Rattle.j39_node.proofs.laws.time.Goals as goal

pub returns : goal.returns
returns c = record { difference = law.difference; set_back = λ later earlier now act l. (omega (arith, l), refl); behind = law.behind }
