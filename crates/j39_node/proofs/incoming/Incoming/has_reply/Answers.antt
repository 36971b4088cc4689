use Rattle.j39_node.proofs.Common.{◌∙◌, ap, length-map, nat_lt, sym}
use Rattle.j39_node.proofs.incoming.Incoming.has_reply.Goals as goal

pub returns : goal.returns
returns c = c.has_reply.ensures ∙ ap (nat_lt 0) (sym (length-map _ _))
