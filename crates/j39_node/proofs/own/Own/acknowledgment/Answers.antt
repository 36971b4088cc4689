use Rattle.j39_node.proofs.Common.{◌∙◌, acknowledgment_group, ap, arith, length, List, Message, nothing, refusal_by, who_of, ℕ}
use Rattle.j39_node.proofs.FrameLemmas.{made}
use Rattle.j39_node.proofs.own.Own.acknowledgment.Goals as goal

to_all : ℕ → List ℕ → Message
to_all address bytes = record { source = address; destination = Rattle.std.proofs.Common.Some 255; priority = 6; group = acknowledgment_group; bytes = bytes }

pub returns : goal.returns
unfolding to_all
returns c =
    let e = c.bytes-bytes.ensures c.args.self.now in
    made c.new.result _ _ c.bytes-bytes.result (refusal_by (who_of nothing c.args.self.now) c.args.due.now) c.new.ensures.known c.new.ensures.value
    (let l = ap length e in omega (arith, l))
    (c.in_ok-id.ensures c.bytes-bytes.result ∙ ap (to_all c.args.self.now.address) e)
