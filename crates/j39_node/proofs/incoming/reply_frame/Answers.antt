use Rattle.j39_node.proofs.Common.{reply_from}
use Rattle.j39_node.proofs.FrameLemmas.{made}
use Rattle.j39_node.proofs.incoming.reply_frame.Goals as goal

pub returns : goal.returns
returns c = λ l.
    made c.new.result _ _ c.args.bytes.now (reply_from c.args.own c.args.to c.args.bytes.now) c.new.ensures.known c.new.ensures.value
    l (c.in_ok-id.ensures c.args.bytes.now)
