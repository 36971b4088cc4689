use Rattle.j39_node.proofs.Common.{◌<◌, arith, length, subst}
use Rattle.j39_node.proofs.hearing.Hearing.new.Goals as goal

pub invariant_of-result-clause-wholes : goal.invariant_of-result-clause-wholes
invariant_of-result-clause-wholes c = λ k d l. absurd (let z = subst (λ ys. k < length ys) c.in_ok-with_capacity-2.ensures.items l in omega (arith, z))
