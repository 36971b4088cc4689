use Rattle.j39_node.proofs.Common.{◌∙◌, bytes_eq}
use Rattle.j39_node.proofs.requests.Due.is_of.Goals as goal

pub returns : goal.returns
returns c = λ own. c.eq.ensures ∙ λ i. bytes_eq (c.bytes.ensures own i) (c.acknowledgment.ensures own i)
