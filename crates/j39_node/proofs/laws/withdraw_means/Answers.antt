use Rattle.j39_node.proofs.LawLemmas.{withdrawn_is}
use Rattle.j39_node.proofs.RenewLemmas.{set_here, set_other}
use Rattle.j39_node.proofs.Common.{false, marks, refl, true}
use Rattle.j39_node.proofs.LawLemmas as law
use Rattle.j39_node.proofs.laws.withdraw_means.Goals as goal

pub returns : goal.returns
returns c = record { known = law.withdrawn_is; marks = λ w H c k is. set_here (marks H) k false true ((withdrawn_is w H c k true is).0 refl).2.3; others = λ H k j n. set_other (marks H) k j true n }
