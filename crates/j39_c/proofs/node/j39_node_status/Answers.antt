-- The status is the node's own.
use Rattle.std.proofs.Common.{rules}
use Rattle.j39_address.specs.Claimer.{status_of}
use Rattle.j39_c.proofs.node.j39_node_status.Goals as goal

pub returns-clause-status : goal.returns-clause-status
returns-clause-status c = (status_of c.status.result, c.status.ensures, search rules)
