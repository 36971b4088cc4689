use Rattle.j39_node.proofs.Common.{◌≡◌, carried, claim_with, Id, id_raw, IsSomeAnd, null_address, Option, subst}
use Rattle.j39_node.proofs.outgoing.Outgoing.blank.Goals as goal

pub returns : goal.returns
returns c =
    let e : carried (id_raw c.unwrap.result) ≡ claim_with null_address =
    subst (λ (o : Option Id). IsSomeAnd o (λ id. carried (id_raw id) ≡ claim_with null_address)) c.unwrap.ensures c.claim_id.ensures in
    λ i. (0, e i (c.new.ensures i))
