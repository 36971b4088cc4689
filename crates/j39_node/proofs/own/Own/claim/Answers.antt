use Rattle.j39_node.proofs.Common.{◌∙◌, ap, arith, claim_with, length, List, Message, ℕ}
use Rattle.j39_node.proofs.FrameLemmas.{made}
use Rattle.j39_node.proofs.own.Own.claim.Goals as goal

pub returns : goal.returns
returns c =
    let e = c.as_slice.ensures ∙ c.bytes.ensures in
    made c.new.result _ _ c.as_slice.result.now _ c.new.ensures.known c.new.ensures.value (let l = ap length e in omega (arith, l))
    (ap (λ (k : List ℕ → Message). k c.as_slice.result.now) c.in_ok-id.ensures ∙ ap (claim_with c.args.address) e)
