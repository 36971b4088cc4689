use Rattle.j39_node.proofs.Common.{[], ◌∷◌, arith}
use Rattle.j39_node.proofs.FrameLemmas.{made}
use Rattle.j39_node.proofs.asking.claims_request.Goals as goal

pub returns : goal.returns
returns c = made c.new.result _ _ (0 ∷ 238 ∷ 0 ∷ []) _ c.new.ensures.known c.new.ensures.value (omega arith) (c.in_ok-id.ensures (0 ∷ 238 ∷ 0 ∷ []))
